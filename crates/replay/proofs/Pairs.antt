-- A pair of immediates makes a number just where it is the one that is found for the number.
use Rattle.std.proofs.Common.{◌≡◌, Bool, true, false, ◌&&◌, ℤ, pos, Some, None, Option, sym, refl, ap, ap₂, ◌∙◌, arith}
use Rattle.std.specs.Ordering.{int_eq}
use Rattle.std.proofs.lemmas.Bool.Decides.{Decides-int_eq, Decides-and, Decides-like, same_from_decides}
use Rattle.operands.specs.declared.imms.Signed.{Signed}
use Rattle.operands.specs.Ranges.{made}

-- a pair is the only one that makes a number
abbrev Only : Option (Signed 20 × Signed 12) → ℤ → Type 0
Only o v = (x : Signed 20) (y : Signed 12) → made x.value y.value ≡ v → o ≡ Some (x, y)

high_of : Option (Signed 20 × Signed 12) → ℤ
high_of None = pos 0
high_of (Some p) = p.0.value

low_of : Option (Signed 20 × Signed 12) → ℤ
low_of None = pos 0
low_of (Some p) = p.1.value

pub pair_tells : (h : Signed 20) (l : Signed 12) (v : ℤ) (high : Signed 20) (low : Signed 12) → made h.value l.value ≡ v → Only (Some (h, l)) v → (int_eq h.value high.value && int_eq l.value low.value) ≡ int_eq (made high.value low.value) v
unfolding high_of low_of
pair_tells h l v high low is only =
    let here = Decides-and (int_eq h.value high.value) (int_eq l.value low.value) (Decides-int_eq h.value high.value) (Decides-int_eq l.value low.value) in
    let there = Decides-like (int_eq (made high.value low.value) v) (λ m. (ap high_of (only high low m), ap low_of (only high low m))) (λ (p : (h.value ≡ high.value) × (l.value ≡ low.value)). ap₂ made (sym p.0) (sym p.1) ∙ is) (Decides-int_eq (made high.value low.value) v) in
    same_from_decides (int_eq h.value high.value && int_eq l.value low.value) (int_eq (made high.value low.value) v) here there

abbrev empty : Option (Signed 20 × Signed 12)
empty = None

not_true : (b : Bool) → (b ≡ true → ⊥) → b ≡ false
not_true true h = absurd (h refl)
not_true false h = refl

none_some : (p : Signed 20 × Signed 12) → empty ≡ Some p → ⊥
none_some p e = grind (arith, e)

pub none_tells : (v : ℤ) (high : Signed 20) (low : Signed 12) → Only None v → int_eq (made high.value low.value) v ≡ false
none_tells v high low only =
    not_true (int_eq (made high.value low.value) v) (λ t. none_some (high, low) (only high low ((Decides-int_eq (made high.value low.value) v).0 t)))
