use Rattle.std.proofs.Common.{◌≡◌, ◌+◌, ◌≤◌}
use Rattle.text.specs.Lines.{lines}
use Rattle.replay.specs.Tallies.{line_count, equal_count}
use Rattle.replay.proofs.tally.counted.Given as goal

-- what is counted, and what is counted of the lines left, make up what there is
abbrev pub invariant-loop-line : goal.invariant-loop-line
invariant-loop-line l = record {
  counted : l.tally.lines + line_count (lines l.line-iterator.rest.now) ≡ line_count (lines l.text);
  agreeing : l.tally.equal + equal_count (lines l.line-iterator.rest.now) ≡ equal_count (lines l.text);
  within : l.tally.equal ≤ l.tally.lines;
}
