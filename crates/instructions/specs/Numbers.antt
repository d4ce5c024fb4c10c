-- The numbers of the refusals.
use Rattle.std.specs.Prelude.{ℕ}
use Rattle.instructions.specs.declared.fields.BuildFault.{BuildFault}
use Rattle.instructions.specs.declared.fields.BuildFault.TheVariants.{Jump, Unused, Register, Constant, MaskBit, Forbidden, Masked, Overlap}

abbrev pub refusal : BuildFault → ℕ
refusal Jump = 3
refusal (Unused f x) = 3
refusal (Register f x) = 1
refusal (Constant n) = 2
refusal (MaskBit m) = 2
refusal (Forbidden f x) = 3
refusal (Masked m) = 3
refusal (Overlap f) = 4
