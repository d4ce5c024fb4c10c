use Rattle.std.proofs.Common.{◌≡◌, ◌+◌}
use Rattle.sweep.specs.Outcomes.{Counted}
use Rattle.sweep.specs.Drawing.{state_after, drawn}
use Rattle.sweep.proofs.drawing.of_drawn.Given as goal

abbrev pub invariant-loop : goal.invariant-loop
invariant-loop l = record {
  counted : Counted drawn l.counter l.tally.read l.tally.unread;
  all : l.tally.read + l.tally.unread ≡ l.counter;
  other : l.tally.other ≡ 0;
  state : l.drawing.state ≡ state_after l.counter;
}
