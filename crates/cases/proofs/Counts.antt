-- Counts over the lines of a text.
use Rattle.std.proofs.Common.{ℕ, ◌+◌, ◌≤◌, Bool, true, false, cond, List, [], ◌∷◌, length, arith}
use Rattle.std.specs.Prelude.{◌==◌}
use Rattle.text.specs.Lines.{Line, ended, unended, lines, with_byte}
use Rattle.cases.specs.Tallies.{line_count}

first : (b : Bool) (x n : ℕ) (ls : List Line) → line_count ls ≤ n → line_count (cond b (ended [] ∷ ls) (with_byte x ls)) ≤ n + 1
first true x n ls h = omega arith
first false x n [] h = omega arith
first false x n (ended t ∷ ls) h = omega arith
first false x n (unended t ∷ ls) h = omega arith

-- each line that a newline ends has that byte
pub line_count-le : (s : List ℕ) → line_count (lines s) ≤ length s
line_count-le [] = omega arith
line_count-le (x ∷ xs) = let h = first (x == 10) x (length xs) (lines xs) (line_count-le xs) in omega (arith, h)
