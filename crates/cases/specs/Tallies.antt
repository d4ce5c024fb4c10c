-- How many cases and lines there are, and how many of them hold.
use Rattle.std.specs.Prelude.{ℕ, ◌+◌, cond, List, [], ◌∷◌}
use Rattle.std.specs.List.{count_by}
use Rattle.text.specs.Lines.{Line, ended, unended}
use Rattle.cases.specs.declared.case.Case.{Case}
use Rattle.cases.specs.Claims.{claim_of, holds}
use Rattle.cases.specs.Lines.{agrees_in}

abbrev pub cases_held : List Case → ℕ
cases_held cases = count_by (λ c. holds (claim_of c)) cases

-- those that a newline ends
abbrev pub line_count : List Line → ℕ
line_count [] = 0
line_count (ended t ∷ ls) = 1 + line_count ls
line_count (unended t ∷ ls) = line_count ls

abbrev pub lines_held : List Line → ℕ
lines_held [] = 0
lines_held (ended t ∷ ls) = cond (agrees_in t) 1 0 + lines_held ls
lines_held (unended t ∷ ls) = lines_held ls
