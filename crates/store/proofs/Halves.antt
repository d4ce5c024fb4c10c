-- Laws of halfwords in bytes. Assumes nothing.
use Rattle.std.proofs.Common.{◌≡◌, ℕ, zero, suc, ◌+◌, ◌-◌, ◌*◌, ◌/◌, ◌%◌, ◌<◌, ◌≤◌, min, List, [], ◌∷◌, ◌++◌, length, get_or, take, drop, set, Some, None, sym, refl, ap, ◌∙◌, add_assoc, add-one, arith, length-drop, length-set, length-take}
use Rattle.std.proofs.lemmas.List.{drop-set-add, get_or-take, set-append_right, take_rest, length-take-le, take-append-drop, take-set-le}
use Rattle.std.proofs.lemmas.Option.{slice_get-get_or, slice_get_past}
use Rattle.std.specs.List.{slice_get}
use Rattle.store.proofs.Fronts.{take-set_any}
use Rattle.store.specs.Halves.{halves, held, with_half}

length-halves : (xs : List ℕ) → length (halves xs) ≡ length xs / 2
length-halves [] = refl
length-halves (x ∷ []) = refl
length-halves (x ∷ (y ∷ rest)) = let h = length-halves rest in omega arith

-- how many halfwords a memory has from a byte on
pub length_held : (start : ℕ) (m : List ℕ) → length (held start m) ≡ min 32768 ((length m - start) / 2)
length_held start m = simp (length-take, length-halves, length-drop)

two_suc : (p : ℕ) → 2 * suc p ≡ suc (suc (2 * p))
two_suc p = omega arith

with_half_suc : (x y : ℕ) (rest : List ℕ) (p h : ℕ) → with_half (x ∷ (y ∷ rest)) (2 * suc p) h ≡ x ∷ (y ∷ with_half rest (2 * p) h)
with_half_suc x y rest p h = simp (two_suc, add-one)

halves-with_half : (xs : List ℕ) (p h : ℕ) → 2 * p + 1 < length xs → halves (with_half xs (2 * p) h) ≡ set (halves xs) p h
halves-with_half [] p h l = absurd (omega arith)
halves-with_half (x ∷ []) p h l = absurd (omega arith)
halves-with_half (x ∷ (y ∷ rest)) zero h l = ap (λ n. n ∷ halves rest) (omega arith)
halves-with_half (x ∷ (y ∷ rest)) (suc p) h l =
    ap halves (with_half_suc x y rest p h) ∙ ap (λ t. (x + 256 * y) ∷ t) (halves-with_half rest p h (omega arith))

get_or-halves : (xs : List ℕ) (p : ℕ) → 2 * p + 1 < length xs → get_or (halves xs) p 0 ≡ get_or xs (2 * p) 0 + 256 * get_or xs (2 * p + 1) 0
get_or-halves [] p l = absurd (omega arith)
get_or-halves (x ∷ []) p l = absurd (omega arith)
get_or-halves (x ∷ (y ∷ rest)) zero l = refl
get_or-halves (x ∷ (y ∷ rest)) (suc p) l =
    simp (two_suc, add-one) (simp add-one at (get_or-halves rest p (omega arith)))

-- a halfword at the bytes start + i and start + i + 1, in the part from start on
drop-with_half : (start : ℕ) (m : List ℕ) (i h : ℕ) → drop start (with_half m (start + i) h) ≡ with_half (drop start m) i h
drop-with_half start m i h =
    ap (λ k. drop start (set (set m (start + i) (h % 256)) k (h / 256))) (add_assoc start i 1)
    ∙ drop-set-add start (set m (start + i) (h % 256)) (i + 1) (h / 256)
    ∙ ap (λ t. set t (i + 1) (h / 256)) (drop-set-add start m i (h % 256))

-- a halfword put at the place p of a memory from a byte on
pub held_with_half : (start : ℕ) (m : List ℕ) (p h : ℕ) → p < length (held start m) → held start (with_half m (start + 2 * p) h) ≡ set (held start m) p h
held_with_half start m p h l =
    let inside : 2 * p + 1 < length (drop start m) = omega (arith, length_held start m, length-drop start m) in
    ap (λ t. take 32768 (halves t)) (drop-with_half start m (2 * p) h)
    ∙ ap (take 32768) (halves-with_half (drop start m) p h inside)
    ∙ take-set_any 32768 (halves (drop start m)) p h

-- the halfword at the place p of a memory from a byte on
pub nth_held : (start : ℕ) (m : List ℕ) (p : ℕ) → p < length (held start m) → slice_get (held start m) p ≡ Some (get_or (drop start m) (2 * p) 0 + 256 * get_or (drop start m) (2 * p + 1) 0)
nth_held start m p l =
    let len : p < min 32768 ((length m - start) / 2) = rw (length_held start m) at l in
    let inside : 2 * p + 1 < length (drop start m) = omega (arith, length-drop start m) in
    slice_get-get_or (held start m) p 0 l ∙ ap Some (get_or-take 32768 (halves (drop start m)) p 0 (omega arith) ∙ get_or-halves (drop start m) p inside)

-- the same, read off the bytes from start on
pub nth_read : (start : ℕ) (m : List ℕ) (p : ℕ) → p < length (held start m) → slice_get (held start m) p ≡ Some (get_or (take (length m - start) (drop start m)) (2 * p) 0 + 256 * get_or (take (length m - start) (drop start m)) (2 * p + 1) 0)
nth_read start m p l = nth_held start m p l ∙ ap (λ xs. Some (get_or xs (2 * p) 0 + 256 * get_or xs (2 * p + 1) 0)) (sym (take_rest m start))

-- how many bytes there are from start on
pub length_rest : (start : ℕ) (m : List ℕ) → length (take (length m - start) (drop start m)) ≡ length m - start
length_rest start m = simp (length-take, length-drop) (omega arith)

-- none stands past the end
pub none_past : (xs : List ℕ) (p : ℕ) → length xs ≤ p → None ≡ slice_get xs p
none_past xs p l = sym (slice_get_past xs p l)

set_rest : (start : ℕ) (m : List ℕ) (i v : ℕ) → start ≤ length m → take start m ++ set (drop start m) i v ≡ set m (start + i) v
set_rest start m i v l =
    let n : start + i - start ≡ i = omega arith in
    ap (λ k. take start m ++ set (drop start m) k v) (sym n)
    ∙ sym (set-append_right (take start m) (drop start m) start (start + i) v (length-take-le start m l) (omega arith))
    ∙ ap (λ t. set t (start + i) v) (take-append-drop start m)

-- a halfword written in the part from start on
pub with_half_rest : (start : ℕ) (m : List ℕ) (i h : ℕ) → start ≤ length m → take start m ++ with_half (drop start m) i h ≡ with_half m (start + i) h
with_half_rest start m i h l =
    let lo = h % 256 in
    let hi = h / 256 in
    let one = set m (start + i) lo in
    ap (λ t. take start m ++ set t (i + 1) hi) (sym (drop-set-add start m i lo))
    ∙ ap (λ t. t ++ set (drop start one) (i + 1) hi) (sym (take-set-le start m (start + i) lo (omega arith)))
    ∙ set_rest start one (i + 1) hi (omega (arith, length-set m (start + i) lo))
    ∙ ap (λ k. set one k hi) (sym (add_assoc start i 1))
