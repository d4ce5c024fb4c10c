-- What generate_imm answers, as a number's high and low part.
use Rattle.std.proofs.Common.{◌≡◌, Bool, true, false, ℤ, sym, refl, ap, ◌∙◌, ap₂}
use Rattle.operands.specs.Ranges.{Makeable, made}
use Rattle.operands.specs.declared.imms.Signed.{Signed}
use Rattle.pairs.specs.Pairs.{makeable, high_of, low_of, pair_of, pair}
use Rattle.pairs.proofs.Parts.{makeable_yes, pair_makes}

-- where it answers a pair, the number can be made, and the pair is its two parts
module _ (v : ℤ) (h : Signed 20) (l : Signed 12) (e : made h.value l.value ≡ v) where
  pub generated_makeable : makeable v ≡ true
  generated_makeable = ap makeable (sym e) ∙ pair_makes.made_is h.value l.value h.ok l.ok

  pub generated_high : h.value ≡ high_of v
  generated_high = ((pair_makes.at v generated_makeable).only h.value l.value h.ok l.ok e).0

  pub generated_low : l.value ≡ low_of v
  generated_low = ((pair_makes.at v generated_makeable).only h.value l.value h.ok l.ok e).1

  pub generated_pair : (rd : ℤ) → pair_of rd h.value l.value ≡ pair rd v
  generated_pair rd = ap₂ (pair_of rd) generated_high generated_low

-- where it answers none, the number cannot be made
pub generated_none : (v : ℤ) → (Makeable v → ⊥) → makeable v ≡ false
generated_none v n = go (makeable v) refl
  where
    go : (b : Bool) → makeable v ≡ b → makeable v ≡ false
    go true e = absurd (n (makeable_yes v e))
    go false e = e
