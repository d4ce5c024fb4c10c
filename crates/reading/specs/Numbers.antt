-- The numbers of the refusals.
use Rattle.std.specs.Prelude.{ℕ}
use Rattle.reading.specs.declared.faults.ReadFault.{ReadFault}
use Rattle.reading.specs.declared.faults.ReadFault.TheVariants.{Outside, NoInstruction}

abbrev pub refusal : ReadFault → ℕ
refusal (Outside p) = 14
refusal (NoInstruction w) = 15
