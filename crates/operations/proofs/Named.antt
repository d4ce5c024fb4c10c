-- A look-up by name, in the rows and in the manual's operations.
use Rattle.std.proofs.Common.{◌≡◌, ℕ, ◌+◌, true, false, cond, List, [], ◌∷◌, map, Some, None, Option, refl, ap, ◌∙◌, arith}
use Rattle.std.specs.List.{position_from}
use Rattle.std.specs.Str.{bytes_eq}
use Rattle.operations.specs.declared.row.Row.{Row}
use Rattle.operations.specs.Manual.{entry_of, operations}
use Rattle.operations.specs.Names.{further, named}

further_more : (k : ℕ) (o : Option ℕ) → further (k + 1) o ≡ further k (further 1 o)
further_more k None = refl
further_more k (Some i) = ap Some (omega arith)

further_none : (o : Option ℕ) → further 0 o ≡ o
further_none None = refl
further_none (Some i) = ap Some (omega arith)

named_from : (rows : List Row) (name : List ℕ) (i : ℕ) → position_from (λ r. bytes_eq r.name.now name) i rows ≡ further i (named (map entry_of rows) name)
named_from [] name i = refl
named_from (r ∷ rows) name i =
    elim (bytes_eq r.name.now name) as (λ b. cond b (Some i) (position_from (λ r. bytes_eq r.name.now name) (i + 1) rows) ≡ further i (cond b (Some 0) (further 1 (named (map entry_of rows) name)))) [
      | true ↦ ap Some (omega arith)
      | false ↦ named_from rows name (i + 1) ∙ further_more i (named (map entry_of rows) name)
    ]

pub named_in : (rows : List Row) (name : List ℕ) → map entry_of rows ≡ operations → position_from (λ r. bytes_eq r.name.now name) 0 rows ≡ named operations name
named_in rows name e = named_from rows name 0 ∙ further_none (named (map entry_of rows) name) ∙ ap (λ es. named es name) e
