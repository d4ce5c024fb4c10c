-- The numbers of the refusals.
use Rattle.std.specs.Prelude.{ℕ}
use Rattle.changing.specs.declared.faults.EntryCause.{EntryCause}
use Rattle.changing.specs.declared.faults.EntryCause.TheVariants as entry
use Rattle.changing.specs.declared.faults.ChangeFault.{ChangeFault}
use Rattle.changing.specs.declared.faults.ChangeFault.TheVariants as change
use Rattle.changing.specs.declared.faults.ValueFault.{ValueFault}
use Rattle.changing.specs.declared.faults.ValueFault.TheVariants as value

abbrev pub cause_number : EntryCause → ℕ
cause_number (entry.NoSlot s) = 12
cause_number (entry.Again s) = 13
cause_number (entry.Range v) = 2

abbrev pub change_refusal : ChangeFault → ℕ
change_refusal change.Full = 5
change_refusal (change.Entry bad) = cause_number bad.cause

abbrev pub value_refusal : ValueFault → ℕ
value_refusal value.Full = 5
value_refusal (value.NoSlot s) = 12
