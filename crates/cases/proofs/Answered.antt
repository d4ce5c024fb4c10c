-- What the calls' answers say of the definitions.
use Rattle.std.proofs.Common.{◌≡◌, cond, Some, None, Option, Ok, Err, Result, ℤ, sym, refl, ap, ◌∙◌, arith}
use Rattle.std.specs.Option.{option_map}
use Rattle.std.specs.Result.{result_ok, result_err}
use Rattle.formats.specs.Lawful.{outcome}
use Rattle.operands.specs.Ranges.{Makeable, made}
use Rattle.operands.specs.declared.imms.Signed.{Signed}
use Rattle.operations.specs.declared.operation.Operation.{Operation}
use Rattle.operations.specs.Manual.{form_at}
use Rattle.instructions.specs.declared.instruction.Instruction.{Instruction}
use Rattle.instructions.specs.declared.fields.Fields.{Fields}
use Rattle.instructions.specs.declared.fields.BuildFault.{BuildFault}
use Rattle.instructions.specs.Faults.{fault, build_fault, is_none}
use Rattle.instructions.specs.Words.{shown, built, word_of, the_word}
use Rattle.pairs.proofs.Generated.{generated_makeable, generated_high, generated_low, generated_none}
use Rattle.cases.specs.declared.made.Parts.{Parts}
use Rattle.cases.specs.Claims.{lawful_word, parts_of, generated}

-- the word of the instruction that is made, if one is
pub lawful_word_is : (o : Operation) (f : Fields) (r : Result Instruction BuildFault) → shown r ≡ outcome (fault (form_at o.place) f) (o, f) → lawful_word f o.place ≡ option_map the_word (result_ok r)
lawful_word_is o f r s = go r (fault (form_at o.place) f) s
  where
    go : (r : Result Instruction BuildFault) (x : Option BuildFault) → shown r ≡ outcome x (o, f) → cond (is_none x) (Some (word_of (form_at o.place) f)) None ≡ option_map the_word (result_ok r)
    go (Ok i) None s =
        let p : ◌≡◌ {A = Operation × Fields} (i.op, i.fields) (o, f) = cc in
        ap (λ (p : Operation × Fields). Some (word_of (form_at p.0.place) p.1)) (sym p)
    go (Ok i) (Some b) s = grind (arith, s)
    go (Err d) None s = grind (arith, s)
    go (Err d) (Some b) s = refl

-- the fault of what is refused
pub build_fault_is : (o : Operation) (f : Fields) (r : Result Instruction BuildFault) → shown r ≡ built o f → build_fault (form_at o.place) f ≡ result_err r
build_fault_is o f r s = go r (build_fault (form_at o.place) f) s
  where
    go : (r : Result Instruction BuildFault) (x : Option BuildFault) → shown r ≡ outcome x (o, f) → x ≡ result_err r
    go (Ok i) None s = refl
    go (Ok i) (Some b) s = grind (arith, s)
    go (Err d) None s = grind (arith, s)
    go (Err d) (Some b) s = let e : b ≡ d = cc in ap Some e

-- the parts of a number that a pair makes
pub generated_some : (v : ℤ) (h : Signed 20) (l : Signed 12) (p : Parts) → made h.value l.value ≡ v → p.high ≡ h.value → p.low ≡ l.value → generated v ≡ Some p
generated_some v h l p e x y =
    ap (λ b. cond b (Some (parts_of v)) None) (generated_makeable v h l e)
    ∙ sym (λ i. Some (record { high = (x ∙ generated_high v h l e) i; low = (y ∙ generated_low v h l e) i }))

-- and none of one that none makes
pub generated_no : (v : ℤ) → (Makeable v → ⊥) → generated v ≡ None
generated_no v n = ap (λ b. cond b (Some (parts_of v)) None) (generated_none v n)
