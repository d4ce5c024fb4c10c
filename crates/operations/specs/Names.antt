-- Operations by name.
use Rattle.std.specs.Prelude.{◌≡◌, ℕ, ◌+◌, ◌<◌, cond, List, [], ◌∷◌, Some, None, Option, slice_index_or}
use Rattle.std.specs.Str.{bytes_eq}
use Rattle.operations.specs.declared.operation.Operation.{Operation}
use Rattle.operations.specs.Manual.{Entry, operations, no_entry, count}

-- a place, counted from k entries earlier
abbrev pub further : ℕ → Option ℕ → Option ℕ
further k None = None
further k (Some i) = Some (i + k)

-- the place of the first entry of that name
abbrev pub named : List Entry → List ℕ → Option ℕ
named [] s = None
named (e ∷ es) s = cond (bytes_eq e.name s) (Some 0) (further 1 (named es s))

abbrev pub placed : Option Operation → Option ℕ
placed None = None
placed (Some o) = Some o.place

-- no two operations have one name
abbrev pub NamesApart : Type 0
NamesApart = (i j : ℕ) → i < count → j < count → (slice_index_or operations i no_entry).name ≡ (slice_index_or operations j no_entry).name → i ≡ j
