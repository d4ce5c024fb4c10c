-- The front of a list. Assumes nothing.
use Rattle.std.proofs.Common.{◌≡◌, ℕ, zero, suc, List, [], ◌∷◌, take, set, refl, ap}

-- a change of an element, in the front of a list
pub take-set_any : {X : Type 0} (n : ℕ) (xs : List X) (i : ℕ) (v : X) → take n (set xs i v) ≡ set (take n xs) i v
take-set_any zero [] i v = refl
take-set_any zero (x ∷ xs) zero v = refl
take-set_any zero (x ∷ xs) (suc i) v = refl
take-set_any (suc n) [] i v = refl
take-set_any (suc n) (x ∷ xs) zero v = refl
take-set_any (suc n) (x ∷ xs) (suc i) v = ap (λ t. x ∷ t) (take-set_any n xs i v)
