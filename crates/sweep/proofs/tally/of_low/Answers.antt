use Rattle.std.proofs.Common.{refl, arith}
use Rattle.sweep.specs.Outcomes.{none}
use Rattle.sweep.proofs.tally.of_low.Goals as goal

pub loop-word-init : goal.loop-word-init
loop-word-init c = record { counted = none; all = omega arith; other = refl }
