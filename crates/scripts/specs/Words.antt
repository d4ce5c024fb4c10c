-- A line's words are the parts between its spaces, byte 32.
use Rattle.std.specs.Prelude.{ℕ, List, ℤ, Option, ◌==◌}
use Rattle.std.specs.List.{slice_get, slice_split}
use Rattle.text.specs.Found.{found}
use Rattle.text.specs.Numbers.{number_of}

abbrev pub words : List ℕ → List (List ℕ)
words line = slice_split (λ b. b == 32) line

-- the number that a word writes, by the word's place from 0
abbrev pub number_at : List ℕ → ℕ → Option ℤ
number_at line k = found (slice_get (words line) k) number_of
