-- The instruction that a word is.
use Rattle.std.proofs.Common.{◌≡◌, ℕ, zero, suc, ◌<◌, ◌≤◌, Bool, true, false, cond, eqb, Some, Option, sym, refl, ap, ◌∙◌, subst, ap₂, not-suc-le-zero, arith}
use Rattle.std.proofs.lemmas.Bool.{eqb-true, eq-eqb, and_parts, and_from}
use Rattle.bits.proofs.Layouts.{picks_only}
use Rattle.formats.specs.Layouts.{layout}
use Rattle.formats.proofs.Sound.{layout_sound}
use Rattle.operations.specs.Manual.{form_at, count}
use Rattle.instructions.specs.declared.fields.Fields.{Fields}
use Rattle.instructions.specs.Faults.{lawful}
use Rattle.instructions.specs.Words.{raw, word_of}
use Rattle.instructions.proofs.Forms.{form_agrees, raw_fits}
use Rattle.reading.specs.Fields.{fields_of}
use Rattle.reading.proofs.Backs.{fields_back}
use Rattle.reading.proofs.Apart.{unconfused}
use Rattle.aiming.specs.Standing.{found_in, is_one, among, instruction_of, InstructionOfExactly}

-- a lawful instruction's fields are found in its word
found : (w k : ℕ) (f : Fields) → k < count → lawful (form_at k) f ≡ true → word_of (form_at k) f ≡ w → found_in k w ≡ f
found w k f h t e =
    let r = form_at k in
    let a = form_agrees k h in
    ap (fields_of r) (picks_only (layout r.kind) (raw r f) w (layout_sound r.kind) (raw_fits r f a t) e) ∙ fields_back r f a t

is_one_yes : (w k : ℕ) (f : Fields) → k < count → lawful (form_at k) f ≡ true → word_of (form_at k) f ≡ w → is_one k w ≡ true
is_one_yes w k f h t e =
    let p = found w k f h t e in
    and_from (lawful (form_at k) (found_in k w)) (eqb (word_of (form_at k) (found_in k w)) w) (ap (lawful (form_at k)) p ∙ t) (eq-eqb (word_of (form_at k) (found_in k w)) w (ap (word_of (form_at k)) p ∙ e))

-- what the test says
pub record One (w k : ℕ) (f : Fields) : Type 0 where
  pub ok : lawful (form_at k) f ≡ true
  pub word : word_of (form_at k) f ≡ w

one : (w k : ℕ) → is_one k w ≡ true → One w k (found_in k w)
one w k t =
    let z = and_parts (lawful (form_at k) (found_in k w)) (eqb (word_of (form_at k) (found_in k w)) w) t in
    record { ok = z.0; word = eqb-true (word_of (form_at k) (found_in k w)) w z.1 }

pub some_same : {x y : ℕ} {f g : Fields} → ◌≡◌ {A = Option (ℕ × Fields)} (Some (x, f)) (Some (y, g)) → (x ≡ y) × (f ≡ g)
some_same {x} {y} {f} {g} e =
    let p : ◌≡◌ {A = ℕ × Fields} (x, f) (y, g) = cc in
    (ap (λ t. t.0) p, ap (λ t. t.1) p)

-- among the first n operations
among_at : (n w k : ℕ) (f : Fields) → n ≤ count → k < n → k < count → lawful (form_at k) f ≡ true → word_of (form_at k) f ≡ w → among n w ≡ Some (k, f)
unfolding among
among_at zero w k f hn hk h t e = absurd (not-suc-le-zero hk)
among_at (suc j) w k f hn hk h t e = go (λ l. among_at j w k f (omega arith) l h t e) (is_one j w) refl
  where
    go : (k < j → among j w ≡ Some (k, f)) → (b : Bool) → is_one j w ≡ b → cond b (Some (j, found_in j w)) (among j w) ≡ Some (k, f)
    go below true y =
        let o = one w j y in
        let p : j ≡ k = unconfused j k (found_in j w) f (omega arith) h o.ok t (o.word ∙ sym e) in
        ap₂ (λ x g. Some (x, g)) p (ap (λ x. found_in x w) p ∙ found w k f h t e)
    go below false y =
        let n : k ≡ j → ⊥ = λ p. let s : is_one j w ≡ true = subst (λ x. is_one x w ≡ true) p (is_one_yes w k f h t e) in cc in
        below (omega (arith, n))

among_only : (n w k : ℕ) (f : Fields) → n ≤ count → among n w ≡ Some (k, f) → (k < count) × One w k f
unfolding among
among_only zero w k f hn e = cc
among_only (suc j) w k f hn e = go (among_only j w k f (omega arith)) (is_one j w) refl e
  where
    go : (among j w ≡ Some (k, f) → (k < count) × One w k f) → (b : Bool) → is_one j w ≡ b → cond b (Some (j, found_in j w)) (among j w) ≡ Some (k, f) → (k < count) × One w k f
    go below true y e =
        let s = some_same e in
        (subst (λ x. x < count) s.0 (omega arith), subst (λ x. One w x f) s.0 (subst (One w j) s.1 (one w j y)))
    go below false y e = below e

pub known : (w k : ℕ) (f : Fields) → k < count → lawful (form_at k) f ≡ true → word_of (form_at k) f ≡ w → instruction_of w ≡ Some (k, f)
unfolding instruction_of
known w k f h t e = among_at count w k f (omega arith) h h t e

pub only_known : (w k : ℕ) (f : Fields) → instruction_of w ≡ Some (k, f) → (k < count) × One w k f
unfolding instruction_of
only_known w k f e = among_only count w k f (omega arith) e

pub instruction_of_exactly : InstructionOfExactly
instruction_of_exactly =
    record {
      exactly = λ w k f h t. ((λ e. (only_known w k f e).1.word), known w k f h t);
      lawful_only = λ w k f e. ((only_known w k f e).0, (only_known w k f e).1.ok);
    }
