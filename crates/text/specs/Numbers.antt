-- Which integer a text writes.
use Rattle.std.specs.Prelude.{◌≡◌, ℕ, zero, suc, ◌+◌, ◌-◌, ◌*◌, ◌^◌, Bool, cond, ◌&&◌, List, [], ◌∷◌, length, drop, ℤ, pos, negsuc, neg_ℤ, ◌≤ℤ◌, Some, None, Option, ◌==◌, nat_le, nat_lt, slice_index}
use Rattle.text.specs.Decimal.{numeral}
use Rattle.text.specs.Fields.{Part, word_part, number_part, empty_part}

-- the range of signed 64 bits
pub record Within (z : ℤ) : Type 0 where
  pub low : neg_ℤ (pos 9223372036854775808) ≤ℤ z
  pub high : z ≤ℤ pos 9223372036854775807

-- a decimal digit
abbrev pub is_digit : ℕ → Bool
is_digit c = nat_le 48 c && nat_le c 57

-- the number that n's digits and these write together, none where one is no digit
abbrev pub value_after : ℕ → List ℕ → Option ℕ
value_after n [] = Some n
value_after n (c ∷ cs) = cond (is_digit c) (value_after (n * 10 + (c - 48)) cs) None

-- the number that digits write: at least one, and no zero before others
abbrev pub natural_of : List ℕ → Option ℕ
natural_of [] = None
natural_of (c ∷ cs) = cond (c == 48 && nat_lt 0 (length cs)) None (value_after 0 (c ∷ cs))

-- a number below the limit
abbrev pub under : ℕ → Option ℕ → Option ℕ
under limit None = None
under limit (Some n) = cond (nat_lt n limit) (Some n) None

-- a number as an integer of signed 64 bits
abbrev pub plain : Option ℕ → Option ℤ
plain None = None
plain (Some n) = cond (nat_lt n (2 ^ 63)) (Some (pos n)) None

-- the number behind a minus, which is not zero
abbrev pub negated : Option ℕ → Option ℤ
negated None = None
negated (Some zero) = None
negated (Some (suc n)) = cond (nat_lt n (2 ^ 63)) (Some (negsuc n)) None

-- the integer of signed 64 bits that a text writes
abbrev pub number_of : List ℕ → Option ℤ
number_of t = cond (slice_index t 0 == 45) (negated (natural_of (drop 1 t))) (plain (natural_of t))

-- a text writes an integer just where it is the integer's numeral, and the integer in range
abbrev pub NumeralsExact : Type 0
NumeralsExact = (t : List ℕ) (z : ℤ) → (number_of t ≡ Some z → Within z × (numeral z ≡ t)) × (Within z → numeral z ≡ t → number_of t ≡ Some z)

-- a field's value: an empty one has 0, a word has none
abbrev pub value_of : Part → Option ℤ
value_of (word_part t p) = None
value_of (number_part t p) = number_of t
value_of (empty_part p) = Some (pos 0)
