-- Places of the first halfwords of a list.
use Rattle.std.proofs.Common.{◌≡◌, ℕ, zero, suc, ◌<◌, ◌≤◌, List, [], ◌∷◌, take, None, refl, le_of_suc-le-suc, not-suc-le-zero, arith, length-take}
use Rattle.std.specs.List.{slice_get}
use Rattle.std.proofs.lemmas.Option.{slice_get_past}

pub nth_take : (n : ℕ) (xs : List ℕ) (i : ℕ) → i < n → slice_get (take n xs) i ≡ slice_get xs i
nth_take zero xs i h = absurd (not-suc-le-zero h)
nth_take (suc n) [] i h = refl
nth_take (suc n) (x ∷ xs) zero h = refl
nth_take (suc n) (x ∷ xs) (suc i) h = nth_take n xs i (le_of_suc-le-suc h)

pub nth_take_past : (n : ℕ) (xs : List ℕ) (i : ℕ) → n ≤ i → slice_get (take n xs) i ≡ None
nth_take_past n xs i h = slice_get_past (take n xs) i (simp length-take (omega arith))
