-- What the theorems on layouts and on two's complement say.
use Rattle.std.specs.Prelude.{◌≡◌, ℕ, suc, ◌+◌, ◌^◌, ◌<◌, true, List, ℤ}
use Rattle.std.specs.Int.Signed.{mag}
use Rattle.bits.specs.declared.part.Part.{Part}
use Rattle.bits.specs.declared.part.Values.{Values}
use Rattle.bits.specs.Layout.{word, picks, sound, Fit}
use Rattle.bits.specs.Twos.{twos, signed}

-- in a sound layout, fields that fit are the fields of their word, so equal words have equal fields
abbrev pub LayoutsExact : Type 0
LayoutsExact = (s : List Part) → sound s ≡ true → (v : Values) → Fit s v → picks s (word s v) ≡ v

-- at any width of one bit or more, the numbers that fit and their two's complements are one to one
pub record TwosExactAt (k : ℕ) : Type 0 where
  pub back : (z : ℤ) → mag z + mag z < 2 ^ suc k → signed (suc k) (twos (suc k) z) ≡ z
  pub forth : (n : ℕ) → n < 2 ^ suc k → twos (suc k) (signed (suc k) n) ≡ n

abbrev pub TwosExact : Type 0
TwosExact = (k : ℕ) → TwosExactAt k
