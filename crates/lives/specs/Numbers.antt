-- The numbers of the refusals.
use Rattle.std.specs.Prelude.{ℕ}
use Rattle.program.specs.Numbers as program
use Rattle.calls.specs.Numbers.{constant_refusal, place_refusal, bind_refusal}
use Rattle.sealing.specs.Numbers as sealing
use Rattle.changing.specs.Numbers.{change_refusal, value_refusal}
use Rattle.lives.specs.declared.types.Fault.{Fault}
use Rattle.lives.specs.declared.types.Fault.TheVariants.{Emit, Constant, Jump, Bind, Seal, Change, Value}

abbrev pub refusal : Fault → ℕ
refusal (Emit e) = program.refusal e
refusal (Constant e) = constant_refusal e
refusal (Jump e) = place_refusal e
refusal (Bind e) = bind_refusal e
refusal (Seal e) = sealing.refusal e
refusal (Change e) = change_refusal e
refusal (Value e) = value_refusal e
