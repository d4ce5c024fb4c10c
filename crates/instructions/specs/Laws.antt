-- Which fields are lawful, in plain terms.
use Rattle.std.specs.Prelude.{◌≡◌, ℕ, suc, ◌-◌, ◌/◌, ◌%◌, ◌^◌, ◌<◌, ◌≤◌, true, cond, ◌⊎◌, Some, None, Option, ℤ, pos, negsuc, ◌==◌, ◌≢◌, unsigned_abs}
use Rattle.operations.specs.declared.row.Except.TheVariants.{Nothing, Zero, ZeroAndTwo}
use Rattle.operations.specs.declared.row.Allowed.{Allowed}
use Rattle.operations.specs.declared.row.Allowed.TheVariants.{All, NonZero, GroupSize}
use Rattle.operations.specs.declared.row.Use.{Use}
use Rattle.operations.specs.declared.row.Use.TheVariants.{Full, Short}
use Rattle.operations.specs.declared.row.Number.{Number}
use Rattle.operations.specs.declared.row.Number.TheVariants.{Signed, Unsigned}
use Rattle.operations.specs.declared.row.Masking.{Masking}
use Rattle.operations.specs.declared.row.Masking.TheVariants.{Free, Always, Never}
use Rattle.operations.specs.declared.row.Form.{Form}
use Rattle.instructions.specs.declared.fields.Fields.{Fields}
use Rattle.formats.specs.Layouts.{size}
use Rattle.operations.specs.Manual.{form_at, count}
use Rattle.instructions.specs.Faults.{lawful, vectored}
use Rattle.instructions.specs.Words.{word_of}

-- any register of the class is 0 to 31, a short one 8 to 15; one that is not used is 0
abbrev pub InUse : Option Use → ℤ → Type 0
InUse None x = x ≡ pos 0
InUse (Some (Full c e)) (pos x) = x < 32
InUse (Some (Full c e)) (negsuc x) = ⊥
InUse (Some (Short c)) (pos x) = (8 ≤ x) × (x < 16)
InUse (Some (Short c)) (negsuc x) = ⊥

-- a multiple of the unit, in units from -2^(k-1) to 2^(k-1) - 1, or from 0 to 2^k - 1
abbrev pub InRange : Option Number → ℤ → Type 0
InRange None n = n ≡ pos 0
InRange (Some (Signed k u w)) (pos n) = (n % u ≡ 0) × (n / u < 2 ^ (k - 1))
InRange (Some (Signed k u w)) (negsuc n) = (suc n % u ≡ 0) × (suc n / u ≤ 2 ^ (k - 1))
InRange (Some (Unsigned k u w)) (pos n) = (n % u ≡ 0) × (n / u < 2 ^ k)
InRange (Some (Unsigned k u w)) (negsuc n) = ⊥

abbrev pub InMask : Option Masking → ℤ → Type 0
InMask None m = m ≡ pos 0
InMask (Some Free) (pos m) = m < 2
InMask (Some Free) (negsuc m) = ⊥
InMask (Some Always) m = m ≡ pos 1
InMask (Some Never) m = m ≡ pos 0

-- a register that the operation takes there
abbrev pub Takes : Option Use → ℤ → Type 0
Takes None x = Unit {0}
Takes (Some (Full c Nothing)) x = Unit {0}
Takes (Some (Full c Zero)) x = x ≡ pos 0 → ⊥
Takes (Some (Full c ZeroAndTwo)) x = (x ≢ pos 0) × (x ≢ pos 2)
Takes (Some (Short c)) x = Unit {0}

-- a constant that the operation takes
abbrev pub Allows : Allowed → ℤ → Type 0
Allows All n = Unit {0}
Allows NonZero n = n ≡ pos 0 → ⊥
Allows GroupSize n = (n ≡ pos 0) ⊎ ((n ≡ pos 1) ⊎ ((n ≡ pos 3) ⊎ (n ≡ pos 7)))

abbrev pub TakesNumber : Option Number → ℤ → Type 0
TakesNumber None n = Unit {0}
TakesNumber (Some (Signed k u w)) n = Allows w n
TakesNumber (Some (Unsigned k u w)) n = Allows w n

pub record Lawful (r : Form) (f : Fields) : Type 0 where
  pub d_in : InUse r.d f.d
  pub a_in : InUse r.a f.a
  pub b_in : InUse r.b f.b
  pub n_in : InRange r.n f.n
  pub m_in : InMask r.m f.m
  pub d_takes : Takes r.d f.d
  pub a_takes : Takes r.a f.a
  pub b_takes : Takes r.b f.b
  pub n_takes : TakesNumber r.n f.n
  pub d_not_b : r.forbids.sources ≡ true → unsigned_abs f.d ≢ unsigned_abs f.b
  pub d_not_a : r.forbids.sources ≡ true → vectored r.a ≡ true → unsigned_abs f.d ≢ unsigned_abs f.a
  pub d_not_v0 : r.forbids.mask ≡ true → unsigned_abs f.m ≡ 1 → unsigned_abs f.d ≢ 0

-- fields have no fault exactly when they are lawful
abbrev pub LawfulExactly : Type 0
LawfulExactly = (r : Form) (f : Fields) → (lawful r f ≡ true → Lawful r f) × (Lawful r f → lawful r f ≡ true)

-- a word has a second halfword exactly when its low two bits are both 1
abbrev pub LowBitsTell : Type 0
LowBitsTell = (k : ℕ) (f : Fields) → k < count → size (form_at k).kind ≡ cond (word_of (form_at k) f % 4 == 3) 2 1
