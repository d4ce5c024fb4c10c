-- The rows and the manual's operations, place by place.
use Rattle.std.proofs.Common.{◌≡◌, ℕ, ◌<◌, List, map, length, get_or, sym, refl, ap, ◌∙◌, arith}
use lib.ListN.{length-map}
use Rattle.std.proofs.lemmas.List.{get_or-map}
use Rattle.operations.specs.declared.row.Row.{Row}
use Rattle.operations.specs.Manual.{Entry, operations, entry_of, no_entry, form_at, count}

pub operations_length : length operations ≡ count
unfolding operations
operations_length = refl

pub rows_length : (rows : List Row) → map entry_of rows ≡ operations → length rows ≡ count
rows_length rows e = sym (length-map rows entry_of) ∙ ap length e ∙ operations_length

pub row_at : (rows : List Row) → map entry_of rows ≡ operations → (i : ℕ) (d : Row) → i < length rows → entry_of (get_or rows i d) ≡ get_or operations i no_entry
row_at rows e i d h = sym (get_or-map entry_of rows i d no_entry h) ∙ ap (λ (xs : List Entry). get_or xs i no_entry) e

pub form_in : (rows : List Row) → map entry_of rows ≡ operations → (i : ℕ) (d : Row) → i < count → (get_or rows i d).form ≡ form_at i
form_in rows e i d h =
    let n = rows_length rows e in
    ap (λ (e : Entry). e.form) (row_at rows e i d (omega arith))
