use Rattle.std.proofs.Common.{◌≡◌, ◌+◌, ◌≤◌}
use Rattle.text.specs.Lines.{lines}
use Rattle.cases.specs.Tallies.{line_count, lines_held}
use Rattle.cases.proofs.tally.of_lines.Given as goal

-- what is counted, and what is counted of the lines left, make up what there is
abbrev pub invariant-loop-line : goal.invariant-loop-line
invariant-loop-line l = record {
  counted : l.tally.all + line_count (lines l.line-iterator.rest.now) ≡ line_count (lines l.text);
  agreeing : l.tally.held + lines_held (lines l.line-iterator.rest.now) ≡ lines_held (lines l.text);
  within : l.tally.held ≤ l.tally.all;
}
