-- The numbers of the refusals.
use Rattle.std.specs.Prelude.{ℕ}
use Rattle.sealing.specs.declared.faults.JumpCause.{JumpCause}
use Rattle.sealing.specs.declared.faults.JumpCause.TheVariants.{Unbound, OutOfReach, NoJump}
use Rattle.sealing.specs.declared.faults.SealFault.{SealFault}
use Rattle.sealing.specs.declared.faults.SealFault.TheVariants.{Full, Jump}

abbrev pub cause_number : JumpCause → ℕ
cause_number Unbound = 10
cause_number OutOfReach = 11
cause_number NoJump = 11

abbrev pub refusal : SealFault → ℕ
refusal Full = 5
refusal (Jump bad) = cause_number bad.cause
