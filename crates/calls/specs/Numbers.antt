-- The numbers of the refusals.
use Rattle.std.specs.Prelude.{ℕ}
use Rattle.aiming.specs.Jumps.{refusal as jump-refusal}
use Rattle.calls.specs.declared.faults.ConstantFault.{ConstantFault}
use Rattle.calls.specs.declared.faults.ConstantFault.TheVariants as constant
use Rattle.calls.specs.declared.faults.PlaceFault.{PlaceFault}
use Rattle.calls.specs.declared.faults.PlaceFault.TheVariants as place
use Rattle.calls.specs.declared.faults.BindFault.{BindFault}
use Rattle.calls.specs.declared.faults.BindFault.TheVariants as bind

abbrev pub constant_refusal : ConstantFault → ℕ
constant_refusal (constant.Register d) = 1
constant_refusal (constant.Range v) = 2
constant_refusal constant.Slots = 6
constant_refusal constant.Full = 5

abbrev pub place_refusal : PlaceFault → ℕ
place_refusal (place.Jump e) = jump-refusal e
place_refusal (place.Label l) = 7
place_refusal place.Jumps = 8
place_refusal place.Full = 5

abbrev pub bind_refusal : BindFault → ℕ
bind_refusal (bind.Label l) = 7
bind_refusal (bind.Bound l) = 9
