-- The ranges of immediates and distances, and the numbers that a pair of immediates makes.
use Rattle.std.specs.Prelude.{◌≡◌, ℕ, suc, ◌-◌, ◌/◌, ◌%◌, ◌^◌, ℤ, pos, negsuc, ◌+ℤ◌, ◌*ℤ◌, ◌≤ℤ◌, unsigned_abs}
use Rattle.bits.specs.Twos.{twos}

-- the numbers of k bits, one or more, in two's complement: from -2 ^ (k - 1) to 2 ^ (k - 1) - 1; with no bit those of one
abbrev pub Within : ℕ → ℤ → Type 0
Within k z = (negsuc (2 ^ (k - 1) - 1) ≤ℤ z) × (z ≤ℤ pos (2 ^ (k - 1) - 1))

-- -16 to 15
abbrev pub Within5 : ℤ → Type 0
Within5 z = Within 5 z

-- -32 to 31
abbrev pub Within6 : ℤ → Type 0
Within6 z = Within 6 z

-- -2048 to 2047
abbrev pub Within12 : ℤ → Type 0
Within12 z = Within 12 z

-- -524288 to 524287
abbrev pub Within20 : ℤ → Type 0
Within20 z = Within 20 z

abbrev pub Even : ℤ → Type 0
Even z = unsigned_abs z % 2 ≡ 0

-- an even number from `least` to `greatest`
abbrev pub InReach : ℤ → ℤ → ℤ → Type 0
InReach least greatest z = (least ≤ℤ z) × (z ≤ℤ greatest) × Even z

-- the even numbers whose halves have k bits in two's complement: from -2 ^ k to 2 ^ k - 2
abbrev pub Reach : ℕ → ℤ → Type 0
Reach k z = InReach (negsuc (2 ^ k - 1)) (pos (2 ^ k - 2)) z

-- -4096 to 4094
abbrev pub ReachB : ℤ → Type 0
ReachB z = Reach 12 z

-- -1048576 to 1048574
abbrev pub ReachJ : ℤ → Type 0
ReachJ z = Reach 20 z

-- -2048 to 2046
abbrev pub ReachCj : ℤ → Type 0
ReachCj z = Reach 11 z

-- the bits of an even number's two's complement, k of them, without the lowest bit
abbrev pub halved : ℕ → ℤ → ℕ
halved k z = twos (suc k) z / 2

-- what an upper and a lower immediate make together
abbrev pub made : ℤ → ℤ → ℤ
made high low = pos 4096 *ℤ high +ℤ low

-- -2147485696 to 2147481599
abbrev pub Makeable : ℤ → Type 0
Makeable z = (negsuc 2147485695 ≤ℤ z) × (z ≤ℤ pos 2147481599)
