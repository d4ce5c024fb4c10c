-- The pair of instructions lui d, high and addi d, d, low that puts a number into a register.
use Rattle.std.specs.Prelude.{◌≡◌, ℕ, ◌+◌, ◌*◌, ◌/◌, ◌%◌, ◌^◌, Bool, true, ◌&&◌, List, ◌++◌, length, ℤ, pos, negsuc, ◌-ℤ◌, Some, None, codes, Option, int_le, slice_index}
use Rattle.bits.specs.Twos.{twos, signed}
use Rattle.operands.specs.Ranges.{Within12, Within20, made}
use Rattle.operations.specs.Manual.{operations, form_at, count}
use Rattle.operations.specs.Names.{named}
use Rattle.instructions.specs.declared.fields.Fields.{Fields}
use Rattle.instructions.specs.Faults.{lawful}
use Rattle.instructions.specs.Words.{halfwords_of}

-- ---- a number as a high and a low part

-- -2147485696 to 2147481599: the numbers that 20 bits and 12 bits, both signed, make together
abbrev pub makeable : ℤ → Bool
makeable v = int_le (negsuc 2147485695) v && int_le v (pos 2147481599)

-- the low 12 bits, as a signed number
abbrev pub low_of : ℤ → ℤ
low_of v = signed 12 (twos 12 v)

-- the 20 bits above those, once the low part is taken away, as a signed number
abbrev pub high_of : ℤ → ℤ
high_of v = signed 20 (twos 32 (v -ℤ low_of v) / 4096)

-- both in range, 4096 * high + low the number, and no other such pair
pub record PairMakesAt (v : ℤ) : Type 0 where
  pub makes : made (high_of v) (low_of v) ≡ v
  pub high_in : Within20 (high_of v)
  pub low_in : Within12 (low_of v)
  pub only : (h l : ℤ) → Within20 h → Within12 l → made h l ≡ v → (h ≡ high_of v) × (l ≡ low_of v)

pub record PairMakes : Type 0 where
  pub at : (v : ℤ) → makeable v ≡ true → PairMakesAt v
  -- and only such numbers are made
  pub made_is : (h l : ℤ) → Within20 h → Within12 l → makeable (made h l) ≡ true

-- ---- the two instructions

-- 1 to 31: register 0 holds no number
abbrev pub holds_number : ℤ → Bool
holds_number d = int_le (pos 1) d && int_le d (pos 31)

abbrev pub or_past : Option ℕ → ℕ
or_past None = count
or_past (Some k) = k

-- the places of lui and addi in the manual's list
abbrev pub lui_place : ℕ
lui_place = or_past (named operations (codes "lui"))

abbrev pub addi_place : ℕ
addi_place = or_past (named operations (codes "addi"))

abbrev pub lui_fields : ℤ → ℤ → Fields
lui_fields rd high = record { d = rd; a = pos 0; b = pos 0; n = high; m = pos 0 }

abbrev pub addi_fields : ℤ → ℤ → Fields
addi_fields rd low = record { d = rd; a = rd; b = pos 0; n = low; m = pos 0 }

-- the halfwords of lui rd, high and addi rd, rd, low
abbrev pub pair_of : ℤ → ℤ → ℤ → List ℕ
pair_of rd high low = halfwords_of lui_place (lui_fields rd high) ++ halfwords_of addi_place (addi_fields rd low)

-- the two that put the number v into rd
abbrev pub upper : ℤ → ℤ → ℕ × Fields
upper rd v = (lui_place, lui_fields rd (high_of v))

abbrev pub lower : ℤ → ℤ → ℕ × Fields
lower rd v = (addi_place, addi_fields rd (low_of v))

-- their halfwords
abbrev pub pair : ℤ → ℤ → List ℕ
pair rd v = pair_of rd (high_of v) (low_of v)

-- ---- what four halfwords hold, whatever they are

-- two halfwords as one word, the low one first
abbrev pub joined : ℕ → ℕ → ℕ
joined low high = high * 65536 + low

-- 4096 * high + low: high the upper 20 bits of the first word, low the upper 12 bits of the second, both read as signed
abbrev pub held : ℕ → ℕ → ℕ → ℕ → ℤ
held a b c e = made (signed 20 (joined a b / 2 ^ 12 % 2 ^ 20)) (signed 12 (joined c e / 2 ^ 20 % 2 ^ 12))

-- what the halfwords from the place p up hold
abbrev pub held_at : List ℕ → ℕ → ℤ
held_at cells p = held (slice_index cells p) (slice_index cells (p + 1)) (slice_index cells (p + 2)) (slice_index cells (p + 3))

-- a number's pair is two instructions, of four halfwords, and holds the number
pub record PairHoldsAt (rd v : ℤ) : Type 0 where
  pub upper_lawful : lawful (form_at (upper rd v).0) (upper rd v).1 ≡ true
  pub lower_lawful : lawful (form_at (lower rd v).0) (lower rd v).1 ≡ true
  pub four : length (pair rd v) ≡ 4
  pub holds : held_at (pair rd v) 0 ≡ v

abbrev pub PairHolds : Type 0
PairHolds = (rd v : ℤ) → holds_number rd ≡ true → makeable v ≡ true → PairHoldsAt rd v
