-- The numbers of the refusals.
use Rattle.std.specs.Prelude.{ℕ}
use Rattle.sheets.specs.declared.faults.SizeFault.{SizeFault}
use Rattle.sheets.specs.declared.faults.SizeFault.TheVariants.{Input, Output}

abbrev pub refusal : SizeFault → ℕ
refusal (Input n) = 19
refusal (Output n) = 19
