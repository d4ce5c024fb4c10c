-- Each name is found at its own place, so that no two operations have one name.
use Rattle.std.proofs.Common.{◌≡◌, ℕ, ◌<◌, List, map, length, get_or, Some, None, Option, sym, refl, ap, ◌∙◌, arith, subst}
use Rattle.std.proofs.lemmas.List.{get_or-map}
use Rattle.std.proofs.lemmas.List.FromFn.{get_or-map-range_with_len}
use Rattle.std.specs.List.{range_with_len}
use Rattle.operations.specs.Manual.{Entry, operations, no_entry, count}
use Rattle.operations.specs.Names.{named, NamesApart}
use Rattle.operations.proofs.Rows.{operations_length}

-- the entries' names, each as it is found
all_found : map (λ (e : Entry). named operations e.name) operations ≡ map (λ i. Some i) (range_with_len 0 count)
unfolding operations
all_found = refl

own_place : (i : ℕ) → i < count → named operations (get_or operations i no_entry).name ≡ Some i
own_place i h =
    sym (get_or-map (λ (e : Entry). named operations e.name) operations i no_entry None (subst (λ n. i < n) (sym operations_length) h))
    ∙ ap (λ (xs : List (Option ℕ)). get_or xs i None) all_found
    ∙ get_or-map-range_with_len (λ i. Some i) 0 count i i None h (omega arith)

abbrev place_in : Option ℕ → ℕ
place_in None = 0
place_in (Some i) = i

pub names_apart : NamesApart
names_apart i j h k e = ap place_in (sym (own_place i h) ∙ ap (named operations) e ∙ own_place j k)
