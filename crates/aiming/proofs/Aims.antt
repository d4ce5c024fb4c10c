-- A jump at another distance.
use Rattle.std.proofs.Common.{◌≡◌, ℕ, ◌<◌, true, false, cond, ℤ, Some, None, Option, sym, ap, ◌∙◌, subst, MatchOption}
use Rattle.std.proofs.lemmas.Bool.{false_from_ne_true}
use Rattle.bits.specs.declared.part.Field.TheVariants.{N}
use Rattle.bits.specs.declared.part.Values.{Values}
use Rattle.bits.specs.Layout.{word, span, Fit}
use Rattle.operands.specs.Ranges.{InReach}
use Rattle.formats.specs.declared.kind.Kind.{Kind}
use Rattle.formats.specs.Layouts.{layout}
use Rattle.formats.specs.Reaching.{with_n}
use Rattle.operations.specs.declared.row.Allowed.TheVariants.{All}
use Rattle.operations.specs.declared.row.Number.TheVariants.{Signed}
use Rattle.operations.specs.declared.row.Form.{Form}
use Rattle.operations.specs.Manual.{form_at, count}
use Rattle.instructions.specs.declared.fields.Fields.{Fields}
use Rattle.instructions.specs.Faults.{lawful, number_ok, reaches}
use Rattle.instructions.specs.Words.{raw, raw_number, word_of}
use Rattle.instructions.proofs.Forms.{form_agrees, raw_fits}
use Rattle.aiming.specs.Standing.{reaching_only, at_distance, aimed, worded}
use Rattle.aiming.proofs.Distances.{jump_number, Distances}

-- an instruction of a format that does not reach is no jump
pub not_aimed : (k : ℕ) (f : Fields) (z : ℤ) → reaches (form_at k).kind ≡ false → None ≡ worded (aimed (reaching_only (Some (k, f))) z)
not_aimed k f z e = ap (λ b. worded (aimed (cond b (Some (k, f)) None) z)) (sym e)

-- the word of a jump at another distance is its word but for the distance's bits
pub aimed_word : (r : Form) (f : Fields) (z : ℤ) (aim : ℤ → ℕ) → raw_number r.n z ≡ aim z → word_of r (at_distance f z) ≡ word (layout r.kind) (with_n (raw r f) (aim z))
aimed_word r f z aim e = ap (λ x. word (layout r.kind) (with_n (raw r f) x)) e

module _ (k : ℕ) (f : Fields) (z : ℤ) (j : reaches (form_at k).kind ≡ true) where
  jump_aimed : worded (aimed (reaching_only (Some (k, f))) z) ≡ worded (cond (number_ok (form_at k).n z) (Some (k, at_distance f z)) None)
  jump_aimed = ap (λ b. worded (aimed (cond b (Some (k, f)) None) z)) j

  -- what a reaching format answers, of a jump in it
  aimed_answer : (least greatest : ℤ) (aim : ℤ → ℕ) → Distances (form_at k).n least greatest aim → (r : Option ℕ)
      → MatchOption r (InReach least greatest z → ⊥) (λ x. InReach least greatest z × (x ≡ word (layout (form_at k).kind) (with_n (raw (form_at k) f) (aim z))))
      → r ≡ worded (aimed (reaching_only (Some (k, f))) z)
  aimed_answer least greatest aim D None n =
      let t = false_from_ne_true (number_ok (form_at k).n z) (λ t. n (D.near z t)) in
      ap (λ b. worded (cond b (Some (k, at_distance f z)) None)) (sym t) ∙ sym jump_aimed
  aimed_answer least greatest aim D (Some x) (h, e) =
      let t = D.ok z h in
      ap Some (e ∙ sym (aimed_word (form_at k) f z aim (D.bits z t)))
      ∙ ap (λ b. worded (cond b (Some (k, at_distance f z)) None)) (sym t) ∙ sym jump_aimed

-- what the format of the kind K answers, over all fields with the word w
abbrev Answers : Kind → ℕ → ℤ → ℤ → (ℤ → ℕ) → ℤ → Option ℕ → Type 0
Answers K w least greatest aim z r =
    (v : Values) → Fit (layout K) v → word (layout K) v ≡ w
    → MatchOption r (InReach least greatest z → ⊥) (λ x. InReach least greatest z × (x ≡ word (layout K) (with_n v (aim z))))

pub aimed_in : (K : Kind) (least greatest : ℤ) (aim : ℤ → ℕ) → reaches K ≡ true → Distances (Some (Signed (span (layout K) N) 2 All)) least greatest aim
    → (w : ℕ) (z : ℤ) (r : Option ℕ) → Answers K w least greatest aim z r
    → (k : ℕ) (f : Fields) → k < count → lawful (form_at k) f ≡ true → (form_at k).kind ≡ K → word_of (form_at k) f ≡ w
    → r ≡ worded (aimed (reaching_only (Some (k, f))) z)
aimed_in K least greatest aim j D w z r a k f h t p q =
    let jk : reaches (form_at k).kind ≡ true = ap reaches p ∙ j in
    let n : (form_at k).n ≡ Some (Signed (span (layout K) N) 2 All) = jump_number k h jk ∙ ap (λ K. Some (Signed (span (layout K) N) 2 All)) p in
    aimed_answer k f z jk least greatest aim (subst (λ c. Distances c least greatest aim) (sym n) D) r
    (subst (λ K. Answers K w least greatest aim z r) (sym p) a (raw (form_at k) f) (raw_fits (form_at k) f (form_agrees k h) t) q)
