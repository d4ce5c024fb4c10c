-- The numbers of the refusals.
use Rattle.std.specs.Prelude.{ℕ}
use Rattle.instructions.specs.Numbers.{refusal as build-refusal}
use Rattle.program.specs.declared.faults.EmitFault.{EmitFault}
use Rattle.program.specs.declared.faults.EmitFault.TheVariants.{Build, Full}

abbrev pub refusal : EmitFault → ℕ
refusal (Build b) = build-refusal b
refusal Full = 5
