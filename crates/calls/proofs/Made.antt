-- What an answer says of the jump that is made.
use Rattle.std.proofs.Common.{◌≡◌, ℤ, Some, None, Ok, Err, Option, Result, refl, ap, MatchResult}
use Rattle.formats.specs.Lawful.{outcome}
use Rattle.operations.specs.declared.operation.Operation.{Operation}
use Rattle.instructions.specs.declared.fields.Fields.{Fields}
use Rattle.instructions.specs.declared.instruction.Instruction.{Instruction}
use Rattle.aiming.specs.declared.faults.JumpFault.{JumpFault}
use Rattle.aiming.specs.Jumps.{shown, jump_fault, jump_built, unaimed}
use Rattle.items.specs.Items.{Item, item_of}

abbrev Shown : Type 0
Shown = Result (Operation × Fields) JumpFault

broken : (x : Option JumpFault) (o : Operation) (f : Fields) (e : JumpFault) → ◌≡◌ {A = Shown} (Err e) (outcome x (o, f)) → x ≡ Some e
broken None o f e q = cc
broken (Some d) o f e q = cc

whole : (x : Option JumpFault) (o p : Operation) (f g : Fields) → ◌≡◌ {A = Shown} (Ok (p, g)) (outcome x (o, f)) → (x ≡ None) × ◌≡◌ {A = Item} (p.place, g) (o.place, f)
whole None o p f g q = let e : ◌≡◌ {A = Operation × Fields} (p, g) (o, f) = cc in (refl, ap (λ (y : Operation × Fields). (y.0.place, y.1)) e)
whole (Some d) o p f g q = cc

-- the item of a jump at distance 0, or the fault
pub told : (r : Result Instruction JumpFault) (o : Operation) (d a b : ℤ) → shown r ≡ jump_built o d a b → MatchResult r (λ i. (jump_fault o.place d a b ≡ None) × ◌≡◌ {A = Item} (item_of i) (o.place, unaimed d a b)) (λ e. jump_fault o.place d a b ≡ Some e)
told (Ok i) o d a b e = whole (jump_fault o.place d a b) o i.op (unaimed d a b) i.fields e
told (Err x) o d a b e = broken (jump_fault o.place d a b) o (unaimed d a b) x e
