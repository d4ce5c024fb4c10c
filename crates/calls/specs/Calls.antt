-- What each call on an open program answers, over numbers and lists: those of counts, book and store in the call's own contract, those of the listing in a program's history. Assumes nothing.
use Rattle.std.specs.Prelude.{ℕ, cond, List, length, ℤ, pos, negsuc, Some, None, Ok, Err, Option, Result, nat_lt}
use Rattle.aiming.specs.declared.faults.JumpFault.{JumpFault}
use Rattle.aiming.specs.Jumps.{jump_fault, unaimed}
use Rattle.records.specs.Records.{place_of}
use Rattle.program.specs.declared.faults.EmitFault.{EmitFault}
use Rattle.program.specs.Calls.{spaced}
use Rattle.program.specs.Calls as program
use Rattle.items.specs.Items.{Item, words, jumps}
use Rattle.items.specs.Pairs.{register_ok, makeable}
use Rattle.calls.specs.declared.faults.ConstantFault.{ConstantFault}
use Rattle.calls.specs.declared.faults.ConstantFault.TheVariants as constant
use Rattle.calls.specs.declared.faults.PlaceFault.{PlaceFault}
use Rattle.calls.specs.declared.faults.PlaceFault.TheVariants as place
use Rattle.calls.specs.declared.faults.BindFault.{BindFault}
use Rattle.calls.specs.declared.faults.BindFault.TheVariants as bind
use Rattle.calls.specs.declared.faults.NoLabel.{NoLabel}
use Rattle.calls.specs.declared.jump.JumpTo.{JumpTo}

-- ---- emit

-- an item
abbrev pub emitted : ℕ → ℕ → Item → Result (Unit {0}) EmitFault
emitted size used i = program.emitted size used (jumps i) (words i)

-- ---- constant: so many slots there are

abbrev pub constanted : ℕ → ℕ → ℕ → ℤ → ℤ → Result (Unit {0}) ConstantFault
constanted size used slots d v =
    cond (register_ok d)
    (cond (makeable v)
    (cond (nat_lt slots 32) (spaced constant.Full size used 4) (Err constant.Slots))
    (Err (constant.Range v)))
    (Err (constant.Register d))

-- ---- labels

-- 0 to 63
abbrev pub known_label : ℤ → Option ℕ
known_label (pos l) = cond (nat_lt l 64) (Some l) None
known_label (negsuc l) = None

abbrev pub known_or : ℤ → Option ℕ → Result ℕ NoLabel
known_or l (Some k) = Ok k
known_or l None = Err (record { 0 = l })

abbrev pub known : ℤ → Result ℕ NoLabel
known l = known_or l (known_label l)

-- the number of a label that is known
abbrev pub label_number : ℤ → ℕ
label_number (pos l) = l
label_number (negsuc l) = 0

-- ---- jump: so many jumps there are

-- the jump's item, at distance 0
abbrev pub jump_item : JumpTo → Item
jump_item t = (t.op.place, unaimed t.d t.a t.b)

abbrev pub after_fault : Option JumpFault → Result (Unit {0}) PlaceFault → Result (Unit {0}) PlaceFault
after_fault None r = r
after_fault (Some e) r = Err (place.Jump e)

abbrev pub with_label : ℤ → Option ℕ → Result (Unit {0}) PlaceFault → Result (Unit {0}) PlaceFault
with_label l None r = Err (place.Label l)
with_label l (Some k) r = r

abbrev pub jumped : ℕ → ℕ → ℕ → JumpTo → Result (Unit {0}) PlaceFault
jumped size used jumps t =
    after_fault (jump_fault t.op.place t.d t.a t.b)
    (with_label t.label (known_label t.label)
    (cond (nat_lt jumps 128) (spaced place.Full size used (length (words (jump_item t)))) (Err place.Jumps)))

-- ---- bind: so many labels are bound

abbrev pub bound_at : ℕ → ℤ → Option ℕ → Result (Unit {0}) BindFault
bound_at n l (Some p) = Err (bind.Bound l)
bound_at n l None = cond (nat_lt n 64) (Ok tt) (Err (bind.Bound l))

abbrev pub bound_as : ℕ → ℤ → List (ℕ × ℕ) → Option ℕ → Result (Unit {0}) BindFault
bound_as n l labels None = Err (bind.Label l)
bound_as n l labels (Some k) = bound_at n l (place_of labels k)

-- over the labels bound before; where 64 are bound there is no other
abbrev pub bound : ℕ → List (ℕ × ℕ) → ℤ → Result (Unit {0}) BindFault
bound n labels l = bound_as n l labels (known_label l)
