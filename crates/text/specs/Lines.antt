-- A sheet is bytes; each line of it is ended by a newline, byte 10.
use Rattle.std.specs.Prelude.{◌≡◌, ℕ, ◌<◌, cond, List, [], ◌∷◌, ◌++◌, length, ◌==◌}
use Rattle.text.specs.Bytes.{Without}

-- a line's text, without its newline; only what stands after the last newline is unended
pub data Line : Type 0 where
  ended : List ℕ → Line
  unended : List ℕ → Line

-- the lines, with one more byte at the front of the first
abbrev pub with_byte : ℕ → List Line → List Line
with_byte x [] = unended (x ∷ []) ∷ []
with_byte x (ended t ∷ ls) = ended (x ∷ t) ∷ ls
with_byte x (unended t ∷ ls) = unended (x ∷ t) ∷ ls

-- the lines of a sheet: no bytes have no line, and a newline ends the line that it stands in
abbrev pub lines : List ℕ → List Line
lines [] = []
lines (x ∷ xs) = cond (x == 10) (ended [] ∷ lines xs) (with_byte x (lines xs))

-- the sheet that lines write: a newline behind each ended one
abbrev pub sheet : List Line → List ℕ
sheet [] = []
sheet (ended t ∷ ls) = t ++ (10 ∷ sheet ls)
sheet (unended t ∷ ls) = t ++ sheet ls

-- no text holds a newline, and only the last line may be unended, and is then not empty
abbrev pub Tidy : List Line → Type 0
Tidy [] = Unit {0}
Tidy (ended t ∷ ls) = Without 10 t × Tidy ls
Tidy (unended t ∷ ls) = Without 10 t × (0 < length t) × (ls ≡ [])

-- a sheet's lines are the only such lines that write it
abbrev pub LinesExact : Type 0
LinesExact = (s : List ℕ) → Tidy (lines s) × (sheet (lines s) ≡ s) × ((ls : List Line) → Tidy ls → sheet ls ≡ s → ls ≡ lines s)
