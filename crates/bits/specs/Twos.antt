-- Two's complement.
use Rattle.std.specs.Prelude.{ℕ, suc, ◌+◌, ◌-◌, ◌%◌, ◌^◌, cond, ℤ, pos, negsuc, nat_lt}

-- a number's two's complement, cut to k bits
abbrev pub twos : ℕ → ℤ → ℕ
twos k (pos n) = n % 2 ^ k
twos k (negsuc n) = 2 ^ k - suc (n % 2 ^ k)

-- k bits, read as a signed number
abbrev pub signed : ℕ → ℕ → ℤ
signed k n = cond (nat_lt (n + n) (2 ^ k)) (pos n) (negsuc (2 ^ k - suc n))
