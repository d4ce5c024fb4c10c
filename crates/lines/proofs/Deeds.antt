-- The operation of a name and the instruction of fields, as the calls on the table and on fields tell them.
use Rattle.std.proofs.Common.{◌≡◌, ℕ, Bool, true, false, cond, ltb, List, Some, None, Option, Ok, Err, Result, refl, ap, ◌∙◌, arith}
use Rattle.std.proofs.lemmas.Bool.{lt-ltb}
use Rattle.formats.specs.Lawful.{outcome}
use Rattle.operations.specs.declared.operation.Operation.{Operation}
use Rattle.operations.specs.Manual.{operations, form_at, count}
use Rattle.operations.specs.Names.{named, placed}
use Rattle.instructions.specs.declared.fields.Fields.{Fields}
use Rattle.instructions.specs.declared.fields.BuildFault.{BuildFault}
use Rattle.instructions.specs.declared.fields.BuildFault.TheVariants.{Jump}
use Rattle.instructions.specs.declared.instruction.Instruction.{Instruction}
use Rattle.instructions.specs.Faults.{reaches, fault}
use Rattle.instructions.specs.Words.{shown, built}
use Rattle.reading.proofs.Tell.{same_op, same}
use Rattle.lines.specs.Deeds.{operation_from, operation_there, instruction_from, instruction}

-- an operation is the one at its place
from_place : (o : Operation) → (b : Bool) → (e : ltb o.place count ≡ b) → Some o ≡ operation_from o.place b e
from_place o true e = ap Some (same_op o _ refl)
from_place o false e = let t : ltb o.place count ≡ true = lt-ltb o.place count o.real in cc

placed_there : (o : Option Operation) → o ≡ operation_there (placed o)
placed_there None = refl
placed_there (Some o) = from_place o (ltb o.place count) refl

pub there_placed : (o : Option Operation) (t : List ℕ) → placed o ≡ named operations t → o ≡ operation_there (named operations t)
there_placed o t e = placed_there o ∙ ap operation_there e

-- ---- an instruction is its operation with its fields

module _ (o : Operation) (f : Fields) where
  from_outcome : (r : Result Instruction BuildFault) → (x : Option BuildFault) → (e : fault (form_at o.place) f ≡ x) → shown r ≡ outcome x (o, f) → r ≡ instruction_from o f x e
  from_outcome (Ok i) None e h =
      let p : ◌≡◌ {A = Operation × Fields} (i.op, i.fields) (o, f) = cc in
      ap Ok (same i _ (ap (λ (q : Operation × Fields). q.0.place) p) (ap (λ (q : Operation × Fields). q.1) p))
  from_outcome (Err x) None e h = grind (arith, h)
  from_outcome (Ok i) (Some y) e h = grind (arith, h)
  from_outcome (Err x) (Some y) e h = let p : x ≡ y = cc in ap Err p

  by_distance : (r : Result Instruction BuildFault) → (b : Bool) → shown r ≡ outcome (cond b (Some Jump) (fault (form_at o.place) f)) (o, f) → r ≡ cond b (Err Jump) (instruction_from o f (fault (form_at o.place) f) refl)
  by_distance (Ok i) true h = grind (arith, h)
  by_distance (Err x) true h = let p : x ≡ Jump = cc in ap Err p
  by_distance r false h = from_outcome r (fault (form_at o.place) f) refl h

pub instruction_shown : (r : Result Instruction BuildFault) (o : Operation) (f : Fields) → shown r ≡ built o f → r ≡ instruction o f
instruction_shown r o f h = by_distance o f r (reaches (form_at o.place).kind) h
