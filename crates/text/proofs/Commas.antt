-- A line's fields one after another.
use Rattle.std.proofs.Common.{◌≡◌, ℕ, zero, suc, ◌+◌, ltb, eqb, List, [], ◌∷◌, length, take, drop, position, Some, None, Option, sym, refl, ap, ap₂, ◌∙◌, arith, length-take}
use Rattle.std.specs.Option.{option_map, is_some}
use Rattle.std.specs.List.{slice_get}
use Rattle.std.proofs.lemmas.List.{drop-drop, append-nil}
use Rattle.std.proofs.lemmas.Bool.Decides.{nat_tests}
use Rattle.std.proofs.lemmas.List.Splits.{slice_split_first}
use Rattle.text.specs.Fields.{fields, begins, Part, part, parts, field_of}
use Rattle.text.specs.Shown.{shown}
use Rattle.text.specs.declared.fields.Field.{Field}
use Rattle.text.proofs.Marks.{far, until, found, none_found, without_all}
use Rattle.text.proofs.Splits.{one_last}

-- the field that begins at p, where a comma follows n bytes on, and those past the comma
pub parts_more : (line : List ℕ) (p n : ℕ) (xs : List ℕ) (f : Part) → xs ≡ drop p line → position (λ x. eqb x 44) xs ≡ Some n → f ≡ part (take n xs) p → parts (fields (drop p line)) p ≡ f ∷ parts (fields (drop (p + n + 1) line)) (p + n + 1)
parts_more line p n xs f d e q =
    let c = found 44 xs n e in
    let k : p + (length (until 44 xs) + 1) ≡ p + n + 1 = omega (arith, length-take (far 44 xs) xs, c.0, c.1) in
    let r : drop (far 44 xs + 1) xs ≡ drop (p + n + 1) line
    = ap (drop (far 44 xs + 1)) d ∙ drop-drop (far 44 xs + 1) p line ∙ ap (λ i. drop i line) (omega (arith, c.0))
    in
    ap (λ ys. parts (fields ys) p) (sym d)
    ∙ ap (λ fs. parts fs p) (slice_split_first (λ x. eqb x 44) xs 0 c.1)
    ∙ ap₂ (λ i ys. part (until 44 xs) p ∷ parts (fields ys) i) k r
    ∙ ap (λ g. g ∷ parts (fields (drop (p + n + 1) line)) (p + n + 1)) (ap (λ i. part (take i xs) p) (sym c.0) ∙ sym q)

-- the field that begins at p, where no comma follows
pub parts_last : (line : List ℕ) (p : ℕ) (xs : List ℕ) (f : Part) → xs ≡ drop p line → position (λ x. eqb x 44) xs ≡ None → f ≡ part xs p → parts (fields (drop p line)) p ≡ f ∷ []
parts_last line p xs f d e q =
    ap (λ fs. parts fs p) (ap fields (sym d ∙ sym (append-nil xs)) ∙ one_last xs (without_all 44 xs (none_found 44 xs e))) ∙ ap (λ g. g ∷ []) (sym q)

-- the field with its number among those with their places
pub nth_parts : (fs : List (List ℕ)) (p k : ℕ) → slice_get (parts fs p) k ≡ option_map (λ t. part t (p + begins fs k)) (slice_get fs k)
nth_parts [] p k = refl
nth_parts (f ∷ fs) p zero = ap (λ n. Some (part f n)) (omega arith)
nth_parts (f ∷ fs) p (suc k) = nth_parts fs (p + (length f + 1)) k ∙ ap (λ n. option_map (λ t. part t n) (slice_get fs k)) (omega arith)

pub field_among : (line : List ℕ) (k : ℕ) → slice_get (parts (fields line) 0) k ≡ field_of line k
field_among line k = nth_parts (fields line) 0 k ∙ ap (λ n. option_map (λ t. part t n) (slice_get (fields line) k)) (omega arith)

-- there is a field of each number below their count
pub field_any : (line : List ℕ) (k : ℕ) → is_some (field_of line k) ≡ ltb k (length (fields line))
field_any line k = some_mapped (λ t. part t (begins (fields line) k)) (slice_get (fields line) k) ∙ some_at (fields line) k
  where
    some_mapped : {A B : Type 0} (f : A → B) (o : Option A) → is_some (option_map f o) ≡ is_some o
    some_mapped f None = refl
    some_mapped f (Some x) = refl

    some_at : {A : Type 0} (xs : List A) (k : ℕ) → is_some (slice_get xs k) ≡ ltb k (length xs)
    some_at [] k = grind (arith, nat_tests)
    some_at (x ∷ xs) zero = grind (arith, nat_tests)
    some_at (x ∷ xs) (suc k) = some_at xs k ∙ grind (arith, nat_tests)

-- and so there is one among those with their places
pub some_among : (line : List ℕ) (k : ℕ) → is_some (slice_get (parts (fields line) 0) k) ≡ ltb k (length (fields line))
some_among line k = ap is_some (field_among line k) ∙ field_any line k

-- a field is there just where it is shown
pub some_shown : (o : Option Field) → is_some o ≡ is_some (option_map shown o)
some_shown None = refl
some_shown (Some x) = refl
