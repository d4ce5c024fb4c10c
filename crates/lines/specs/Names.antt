-- The names line: the six names op, d, a, b, n and m in any order.
use Rattle.std.specs.Prelude.{ℕ, cond, List, length, Some, None, codes, Option, ◌==◌}
use Rattle.text.specs.Fields.{fields, place_of}
use Rattle.text.specs.Found.{found}
use Rattle.lines.specs.declared.columns.Columns.{Columns}

-- the number of the field with that name
abbrev pub column : List ℕ → List ℕ → Option ℕ
column line name = place_of (fields line) name

-- six fields, and each of the six names among them
abbrev pub named_columns : List ℕ → Option Columns
named_columns line =
    cond (length (fields line) == 6)
    (found (column line (codes "op")) (λ o.
    found (column line (codes "d")) (λ d.
    found (column line (codes "a")) (λ a.
    found (column line (codes "b")) (λ b.
    found (column line (codes "n")) (λ n.
    found (column line (codes "m")) (λ m.
    Some (record { op = o; d = d; a = a; b = b; n = n; m = m })))))))) None
