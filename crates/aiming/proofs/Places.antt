-- Places of a list of halfwords.
use Rattle.std.proofs.Common.{◌≡◌, ℕ, zero, suc, ◌+◌, ◌<◌, ◌≤◌, ◌⊎◌, List, [], ◌∷◌, length, take, drop, set, sym, refl, ap, ◌∙◌, inl, inr, suc-add, zero-add, arith}
use Rattle.std.specs.List.{slice_get}
use Rattle.store.specs.Puts.{applied, puts}
use Rattle.reading.proofs.Takes.{nth_take}

pub nth_drop : (p : ℕ) (xs : List ℕ) (i : ℕ) → slice_get (drop p xs) i ≡ slice_get xs (p + i)
nth_drop zero xs i = ap (slice_get xs) (sym (zero-add i))
nth_drop (suc p) [] i = refl
nth_drop (suc p) (x ∷ xs) i = nth_drop p xs i ∙ ap (slice_get (x ∷ xs)) (sym (suc-add p i))

-- the halfwords from p up are hs: so are those at each place
pub nth_part : (xs hs : List ℕ) (p n i : ℕ) → take n (drop p xs) ≡ hs → i < n → slice_get xs (p + i) ≡ slice_get hs i
nth_part xs hs p n i e l = sym (nth_drop p xs i) ∙ sym (nth_take n (drop p xs) i l) ∙ ap (λ t. slice_get t i) e

-- ---- puts leave the other places

pub nth_set_apart : (xs : List ℕ) (i v j : ℕ) → (j ≡ i → ⊥) → slice_get (set xs i v) j ≡ slice_get xs j
nth_set_apart [] i v j n = refl
nth_set_apart (x ∷ xs) zero v zero n = absurd (n refl)
nth_set_apart (x ∷ xs) zero v (suc j) n = refl
nth_set_apart (x ∷ xs) (suc i) v zero n = refl
nth_set_apart (x ∷ xs) (suc i) v (suc j) n = nth_set_apart xs i v j (λ e. n (ap suc e))

pub nth_puts_apart : (p : ℕ) (hs xs : List ℕ) (j : ℕ) → (j < p) ⊎ (p + length hs ≤ j) → slice_get (applied (puts p hs) xs) j ≡ slice_get xs j
nth_puts_apart p [] xs j a = refl
nth_puts_apart p (h ∷ hs) xs j (inl a) =
    nth_puts_apart (suc p) hs (set xs p h) j (inl (omega arith)) ∙ nth_set_apart xs p h j (λ e. omega arith)
nth_puts_apart p (h ∷ hs) xs j (inr a) =
    nth_puts_apart (suc p) hs (set xs p h) j (inr (omega arith)) ∙ nth_set_apart xs p h j (λ e. omega arith)
