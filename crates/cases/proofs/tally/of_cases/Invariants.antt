use Rattle.std.proofs.Common.{◌≡◌, take}
use Rattle.cases.specs.Tallies.{cases_held}
use Rattle.cases.proofs.tally.of_cases.Given as goal

abbrev pub invariant-loop-case : goal.invariant-loop-case
invariant-loop-case l = l.held ≡ cases_held (take l.case-index l.cases)
