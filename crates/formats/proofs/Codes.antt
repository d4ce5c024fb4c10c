-- Codes that fit their places, and fields that have no place.
use Rattle.std.proofs.Common.{◌≡◌, ℕ, ◌^◌, ◌<◌, Bool, true, false, cond, ltb, List, [], ◌∷◌, Some, None, sym, refl, subst, arith}
use Rattle.std.proofs.lemmas.Bool.Decides.{nat_tests}
use Rattle.formats.specs.Lawful.{Check, check, first_wide, Narrow}

-- lawful operands have narrow codes
pub narrow : (s : List Check) → first_wide s ≡ None → Narrow s
narrow [] t = tt
narrow (check v k e ∷ s) t = go (ltb v (2 ^ k)) refl (narrow s) t
  where
    go : (b : Bool) → ltb v (2 ^ k) ≡ b → (first_wide s ≡ None → Narrow s) → cond b (first_wide s) (Some (e v)) ≡ None → (v < 2 ^ k) × Narrow s
    go true h r t = (grind (arith, nat_tests), r t)
    go false h r t = absurd (let z : ◌≡◌ {A = ℕ} 0 1 = cc in omega arith)

-- and operands with narrow codes are lawful
pub none_wide : (s : List Check) → Narrow s → first_wide s ≡ None
none_wide [] n = refl
none_wide (check v k e ∷ s) n =
    let h = n.0 in
    let t : ltb v (2 ^ k) ≡ true = grind (arith, nat_tests) in
    subst (λ b. cond b (first_wide s) (Some (e v)) ≡ None) (sym t) (none_wide s n.1)

-- a field that has no bits is 0
pub none_there : (n : ℕ) → n < 1 → 0 ≡ n
none_there n h = omega arith
