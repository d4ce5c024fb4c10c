-- Text written into a buffer.
use Rattle.std.specs.Prelude.{ℕ, zero, suc, ◌+◌, ◌/◌, ◌%◌, ◌^◌, cond, List, [], ◌∷◌, ◌++◌, length, take, drop, nat_lt}

-- a buffer with a text written over it from a place on
abbrev pub overwritten : List ℕ → ℕ → List ℕ → List ℕ
overwritten buffer place text = take place buffer ++ (text ++ drop (place + length text) buffer)

-- 0 to 9, then a to f
abbrev pub hex_digit : ℕ → ℕ
hex_digit d = cond (nat_lt d 10) (48 + d) (87 + d)

-- this many hexadecimal digits of a number, the most significant first
abbrev pub hex : ℕ → ℕ → List ℕ
hex zero n = []
hex (suc k) n = hex_digit (n / 16 ^ k % 16) ∷ hex k n
