use Rattle.std.proofs.Common.{◌≡◌, ◌+◌}
use Rattle.sweep.specs.Outcomes.{Counted, itself}
use Rattle.sweep.proofs.tally.of_low.Given as goal

abbrev pub invariant-loop-word : goal.invariant-loop-word
invariant-loop-word l = record {
  counted : Counted itself l.word l.tally.read l.tally.unread;
  all : l.tally.read + l.tally.unread ≡ l.word;
  other : l.tally.other ≡ 0;
}
