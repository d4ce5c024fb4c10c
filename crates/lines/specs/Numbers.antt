-- The numbers of the refusals.
use Rattle.std.specs.Prelude.{ℕ}
use Rattle.program.specs.Numbers.{refusal as emit_refusal}
use Rattle.calls.specs.Numbers.{constant_refusal, place_refusal, bind_refusal}
use Rattle.sealing.specs.Numbers.{refusal as seal_refusal}
use Rattle.lines.specs.declared.faults.LineFault.{LineFault}
use Rattle.lines.specs.declared.faults.LineFault.TheVariants.{Names, FieldCount, NoNewline, UnknownOperation, NoNumber, Unused, Emit, Constant, Jump, Bind, Seal}
use Rattle.lines.specs.declared.faults.SheetFault.{SheetFault}

abbrev pub refusal : LineFault → ℕ
refusal Names = 16
refusal (FieldCount n) = 17
refusal NoNewline = 17
refusal UnknownOperation = 18
refusal (NoNumber f) = 18
refusal (Unused f x) = 3
refusal (Emit e) = emit_refusal e
refusal (Constant e) = constant_refusal e
refusal (Jump e) = place_refusal e
refusal (Bind e) = bind_refusal e
refusal (Seal e) = seal_refusal e

abbrev pub sheet_refusal : SheetFault → ℕ
sheet_refusal s = refusal s.fault
