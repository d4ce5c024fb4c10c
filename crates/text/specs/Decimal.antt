-- Numbers written in decimal, as ASCII.
use Rattle.std.specs.Prelude.{ℕ, suc, ◌+◌, cond, List, [], ◌∷◌, map, ℤ, pos, negsuc, ◌==◌}
use Rattle.std.specs.Int.Digits.{digits_of}

-- the decimal digits of a natural number, with no leading zero; zero is written 0
abbrev pub digits : ℕ → List ℕ
digits n = cond (n == 0) (48 ∷ []) (map (λ d. 48 + d) (digits_of 10 n))

-- an integer: its digits, behind a minus if it is below zero
abbrev pub numeral : ℤ → List ℕ
numeral (pos n) = digits n
numeral (negsuc n) = 45 ∷ digits (suc n)
