-- A layout: the parts of a word, from the lowest bit up. From a layout follow the word of given fields, the bits that the
-- operation fixes, and the fields of a given word.
use Rattle.std.specs.Prelude.{◌≡◌, ℕ, zero, suc, ◌+◌, ◌-◌, ◌*◌, ◌/◌, ◌%◌, ◌^◌, ◌<◌, Bool, true, cond, ◌&&◌, ◌||◌, List, [], ◌∷◌, length, ◌==◌, bit_or, nat_le, nat_lt}
use Rattle.bits.specs.declared.part.Field.{Field}
use Rattle.bits.specs.declared.part.Field.TheVariants.{D, A, B, N, M, Opcode, Funct3, Funct}
use Rattle.bits.specs.declared.part.Part.{Part}
use Rattle.bits.specs.declared.part.Part.TheVariants.{Fixed, Slice}
use Rattle.bits.specs.declared.part.Values.{Values}

abbrev pub value_at : Field → Values → ℕ
value_at D v = v.d
value_at A v = v.a
value_at B v = v.b
value_at N v = v.n
value_at M v = v.m
value_at Opcode v = v.opcode
value_at Funct3 v = v.funct3
value_at Funct v = v.funct

abbrev pub index : Field → ℕ
index D = 0
index A = 1
index B = 2
index N = 3
index M = 4
index Opcode = 5
index Funct3 = 6
index Funct = 7

abbrev pub same : Field → Field → Bool
same f g = index f == index g

-- the operation's own fields
abbrev pub code : Field → Bool
code f = nat_le 5 (index f)

-- ---- the word of the fields v

abbrev pub width : Part → ℕ
width (Fixed w c) = w
width (Slice f l w) = w

abbrev pub value : Part → Values → ℕ
value (Fixed w c) v = c % 2 ^ w
value (Slice f l w) v = value_at f v / 2 ^ l % 2 ^ w

-- how many bits the word has
abbrev pub total : List Part → ℕ
total [] = 0
total (p ∷ s) = total s + width p

-- the word at the parts that q takes, and 0 elsewhere; and ones at those parts
abbrev pub taken : (Part → Bool) → List Part → Values → ℕ
taken q [] v = 0
taken q (p ∷ s) v = taken q s v * 2 ^ width p + cond (q p) (value p v) 0

abbrev pub ones : (Part → Bool) → List Part → ℕ
ones q [] = 0
ones q (p ∷ s) = ones q s * 2 ^ width p + cond (q p) (2 ^ width p - 1) 0

abbrev pub any : Part → Bool
any p = true

-- what the operation fixes
abbrev pub fixed : Part → Bool
fixed (Fixed w c) = true
fixed (Slice f l w) = code f

abbrev pub word : List Part → Values → ℕ
word s v = taken any s v

abbrev pub mask : List Part → ℕ
mask s = ones fixed s

abbrev pub bits : List Part → Values → ℕ
bits s v = taken fixed s v

-- ---- the fields of the word x

-- the bits of the field f in the part p, where it stands at the bottom of x
abbrev pub bits_in : Field → Part → ℕ → ℕ
bits_in f (Fixed w c) x = 0
bits_in f (Slice g l w) x = cond (same g f) (x % 2 ^ w * 2 ^ l) 0

-- the bits of the field f, joined to those in a
abbrev pub pick : ℕ → List Part → Field → ℕ → ℕ
pick a [] f x = a
pick a (p ∷ s) f x = pick (bit_or a (bits_in f p x)) s f (x / 2 ^ width p)

abbrev pub picks : List Part → ℕ → Values
picks s x = record {
  d = pick 0 s D x;
  a = pick 0 s A x;
  b = pick 0 s B x;
  n = pick 0 s N x;
  m = pick 0 s M x;
  opcode = pick 0 s Opcode x;
  funct3 = pick 0 s Funct3 x;
  funct = pick 0 s Funct x;
}

-- ---- sound layouts, by computing

-- no part of s has a bit of the field f from l up to l + w
abbrev pub apart : List Part → Field → ℕ → ℕ → Bool
apart [] f l w = true
apart (Fixed v c ∷ s) f l w = apart s f l w
apart (Slice g k v ∷ s) f l w = cond (same g f) (nat_le (k + v) l || nat_le (l + w) k) true && apart s f l w

-- how many bits of the field f stand in one part from its bit a up
abbrev pub from : List Part → Field → ℕ → ℕ
from [] f a = 0
from (Fixed w c ∷ s) f a = from s f a
from (Slice g l w ∷ s) f a = cond (same g f && l == a) w (from s f a)

-- how far the parts of f go on from its bit a without a gap
abbrev pub reach : ℕ → List Part → Field → ℕ → ℕ
reach zero s f a = a
reach (suc n) s f a = reach n s f (from s f a + a)

-- how many bits the field f has
abbrev pub span : List Part → Field → ℕ
span s f = reach (length s) s f 0

abbrev pub tidy : List Part → List Part → Bool
tidy t [] = true
tidy t (Fixed w c ∷ s) = tidy t s
tidy t (Slice f l w ∷ s) = nat_le (w + l) (span t f) && (apart s f l w && tidy t s)

-- each bit of a field stands once
abbrev pub sound : List Part → Bool
sound s = tidy s s

-- each field is as wide as the layout has it, or narrower
abbrev pub Fit : List Part → Values → Type 0
Fit s v = (f : Field) → value_at f v < 2 ^ span s f

-- within 32 bits: what the code asks
abbrev pub handy : Part → Bool
handy (Fixed w c) = nat_lt w 32
handy (Slice f l w) = nat_lt l 32 && (nat_lt w 32 && nat_le (w + l) 32)

abbrev pub Handy : Part → Type 0
Handy p = handy p ≡ true

abbrev pub handies : List Part → Bool
handies [] = true
handies (p ∷ s) = handy p && (nat_le (total s + width p) 32 && handies s)

abbrev pub Handies : List Part → Type 0
Handies s = handies s ≡ true
