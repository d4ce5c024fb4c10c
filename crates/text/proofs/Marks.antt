-- Bytes up to a mark.
use Rattle.std.proofs.Common.{◌≡◌, ℕ, ◌+◌, ◌<◌, ◌≤◌, Bool, true, false, cond, not, eqb, ltb, List, [], ◌∷◌, ◌++◌, length, get_or, take, drop, position, Some, None, refl, ap, ◌∙◌, subst, ⊎_elim, arith, one-add}
use Rattle.std.specs.List.{position_or_len, before_first}
use Rattle.std.proofs.lemmas.List.{take_all}
use Rattle.std.proofs.lemmas.List.Sums.{split_at_first, passes_at_first}
use Rattle.std.proofs.lemmas.Bool.{cond-true, cond-false, lt-ltb, le-ltb, eqb-true, eqb-false, cases_lt}
use Rattle.text.specs.Bytes.{Without}

-- how many bytes stand before the first mark
abbrev pub far : ℕ → List ℕ → ℕ
far m xs = position_or_len (λ x. eqb x m) xs

-- the bytes before the first mark, all of them where there is none
abbrev pub until : ℕ → List ℕ → List ℕ
until m xs = before_first (λ x. eqb x m) xs

-- a place found is the first mark's
pub found : (m : ℕ) (xs : List ℕ) (n : ℕ) → position (λ x. eqb x m) xs ≡ Some n → (n ≡ far m xs) × (far m xs < length xs)
found m xs n e =
    ⊎_elim (λ l. let s = cond-true (ltb (far m xs) (length xs)) (Some (far m xs)) None (lt-ltb (far m xs) (length xs) l) in let q : n ≡ far m xs = cc in (q, l))
    (λ l. let s = cond-false (ltb (far m xs) (length xs)) (Some (far m xs)) None (le-ltb (far m xs) (length xs) l) in absurd (let z : ◌≡◌ {A = ℕ} 0 1 = cc in omega arith))
    (cases_lt (far m xs) (length xs))

pub none_found : (m : ℕ) (xs : List ℕ) → position (λ x. eqb x m) xs ≡ None → length xs ≤ far m xs
none_found m xs e =
    ⊎_elim (λ l. let s = cond-true (ltb (far m xs) (length xs)) (Some (far m xs)) None (lt-ltb (far m xs) (length xs) l) in absurd (let z : ◌≡◌ {A = ℕ} 0 1 = cc in omega arith)) (λ l. l)
    (cases_lt (far m xs) (length xs))

without_step : (m x n : ℕ) (xs : List ℕ) (b : Bool) → eqb x m ≡ b → Without m (take n xs) → Without m (take (cond (not b) (1 + n) 0) (x ∷ xs))
without_step m x n xs true e h = tt
without_step m x n xs false e h = rw one-add (eqb-false x m e, h)

pub without_until : (m : ℕ) (xs : List ℕ) → Without m (until m xs)
without_until m [] = tt
without_until m (x ∷ xs) = without_step m x (far m xs) xs (eqb x m) refl (without_until m xs)

pub without_all : (m : ℕ) (xs : List ℕ) → length xs ≤ far m xs → Without m xs
without_all m xs l = subst (Without m) (take_all (far m xs) xs l) (without_until m xs)

-- the bytes before the mark, the mark, and those behind it
pub marked : (m : ℕ) (xs : List ℕ) → far m xs < length xs → xs ≡ until m xs ++ (m ∷ drop (far m xs + 1) xs)
marked m xs l =
    split_at_first (λ x. eqb x m) xs 0 l
    ∙ ap (λ y. until m xs ++ (y ∷ drop (far m xs + 1) xs)) (eqb-true (get_or xs (far m xs) 0) m (passes_at_first (λ x. eqb x m) xs 0 l))
