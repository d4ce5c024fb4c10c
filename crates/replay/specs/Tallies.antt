-- How many lines of a text there are, and how many of them tell the answer here.
use Rattle.std.specs.Prelude.{ℕ, ◌+◌, cond, List, [], ◌∷◌}
use Rattle.text.specs.Lines.{Line, ended, unended}
use Rattle.replay.specs.Lines.{agrees_of}

-- those that a newline ends
abbrev pub line_count : List Line → ℕ
line_count [] = 0
line_count (ended t ∷ ls) = 1 + line_count ls
line_count (unended t ∷ ls) = line_count ls

abbrev pub equal_count : List Line → ℕ
equal_count [] = 0
equal_count (ended t ∷ ls) = cond (agrees_of t) 1 0 + equal_count ls
equal_count (unended t ∷ ls) = equal_count ls
