-- What each call on a program answers, and what it leaves.
use Rattle.std.specs.Prelude.{ℕ, ◌+◌, Bool, cond, List, length, Ok, Err, Result, nat_le}
use Rattle.instructions.specs.declared.fields.BuildFault.TheVariants as fields
use Rattle.program.specs.declared.faults.NoRoom.{NoRoom}
use Rattle.program.specs.declared.faults.EmitFault.{EmitFault}
use Rattle.program.specs.declared.faults.EmitFault.TheVariants.{Build, Full}

-- n halfwords more, behind those used, in a store of that size: taken, or that fault
abbrev pub spaced : {F : Type 0} → F → ℕ → ℕ → ℕ → Result (Unit {0}) F
spaced e size used n = cond (nat_le (used + n) size) (Ok tt) (Err e)

-- a struct without fields has one value
abbrev pub no_room : NoRoom
no_room = record {}

-- an instruction: whether it is a jump, which has no place of its own until it is given a label, and its halfwords
abbrev pub emitted : ℕ → ℕ → Bool → List ℕ → Result (Unit {0}) EmitFault
emitted size used jump hs = cond jump (Err (Build fields.Jump)) (spaced Full size used (length hs))
