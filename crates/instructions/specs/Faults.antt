-- The first fault of an operation's fields, in the order of refusal. Laws.antt says in plain terms which fields have none.
use Rattle.std.specs.Prelude.{◌≡◌, ℕ, suc, ◌-◌, ◌/◌, ◌%◌, ◌^◌, ◌<◌, ◌≤◌, Bool, true, false, cond, not, ◌&&◌, List, [], ◌∷◌, ℤ, pos, negsuc, Some, None, Option, Ok, Err, Result, ◌==◌, nat_le, nat_lt, unsigned_abs}
use Rattle.std.specs.Coded.{Unit-prop, le_prop}
use Rattle.bits.specs.declared.part.Field.TheVariants.{D, A, N, M}
use Rattle.bits.specs.declared.part.Field.TheVariants as field
use Rattle.formats.specs.declared.kind.Kind.{Kind}
use Rattle.formats.specs.declared.kind.Kind.TheVariants.{R, I, S, U, B, J, V, VImm, VMem, Cr, Cr2, CrBare, Ca, Cj, Ci, CiLwsp, CiLdsp, CiAddi16sp, Ciw, Cb, CssWord, CssDouble, CsWord, CsDouble, ClWord, ClDouble}
use Rattle.operands.specs.declared.regs.Class.TheVariants.{Integer, Float, Vector}
use Rattle.operations.specs.declared.row.Use.{Use}
use Rattle.operations.specs.declared.row.Use.TheVariants.{Full, Short}
use Rattle.operations.specs.declared.row.Number.{Number}
use Rattle.operations.specs.declared.row.Number.TheVariants.{Signed, Unsigned}
use Rattle.operations.specs.declared.row.Masking.{Masking}
use Rattle.operations.specs.declared.row.Masking.TheVariants.{Free, Always, Never}
use Rattle.operations.specs.declared.row.Form.{Form}
use Rattle.operations.specs.Permitted.{permits, allows}
use Rattle.instructions.specs.declared.fields.Fields.{Fields}
use Rattle.instructions.specs.declared.fields.BuildFault.{BuildFault}
use Rattle.instructions.specs.declared.fields.BuildFault.TheVariants.{Jump, Unused, Register, Constant, MaskBit, Forbidden, Masked, Overlap}

-- the formats with a distance: their operations are the jumps
abbrev pub reaches : Kind → Bool
reaches R = false
reaches I = false
reaches S = false
reaches U = false
reaches B = true
reaches J = true
reaches V = false
reaches VImm = false
reaches VMem = false
reaches Cr = false
reaches Cr2 = false
reaches CrBare = false
reaches Ca = false
reaches Cj = true
reaches Ci = false
reaches CiLwsp = false
reaches CiLdsp = false
reaches CiAddi16sp = false
reaches Ciw = false
reaches Cb = false
reaches CssWord = false
reaches CssDouble = false
reaches CsWord = false
reaches CsDouble = false
reaches ClWord = false
reaches ClDouble = false

-- ---- a field that is not used is 0

abbrev pub idle : {A : Type 0} → Option A → ℤ → Bool
idle None x = unsigned_abs x == 0
idle (Some u) x = true

-- ---- a field that is used is in its range

abbrev pub reg_ok : Option Use → ℤ → Bool
reg_ok None x = true
reg_ok (Some (Full c e)) (pos x) = nat_lt x 32
reg_ok (Some (Full c e)) (negsuc x) = false
reg_ok (Some (Short c)) (pos x) = nat_le 8 x && nat_lt x 16
reg_ok (Some (Short c)) (negsuc x) = false

-- a multiple of the unit u, of k bits in units
abbrev pub number_ok : Option Number → ℤ → Bool
number_ok None n = true
number_ok (Some (Signed k u w)) (pos n) = n % u == 0 && nat_lt (n / u) (2 ^ (k - 1))
number_ok (Some (Signed k u w)) (negsuc n) = suc n % u == 0 && nat_le (suc n / u) (2 ^ (k - 1))
number_ok (Some (Unsigned k u w)) (pos n) = n % u == 0 && nat_lt (n / u) (2 ^ k)
number_ok (Some (Unsigned k u w)) (negsuc n) = false

-- 0 or 1
abbrev bit : ℤ → Bool
bit (pos m) = nat_lt m 2
bit (negsuc m) = false

abbrev pub mask_ok : Option Masking → ℤ → Bool
mask_ok None m = true
mask_ok (Some u) m = bit m

abbrev pub mask_rule : Option Masking → ℤ → Bool
mask_rule None m = true
mask_rule (Some Free) m = true
mask_rule (Some Always) m = unsigned_abs m == 1
mask_rule (Some Never) m = unsigned_abs m == 0

-- ---- a value of the range that the operation does not take there

abbrev pub taken : Option Use → ℤ → Bool
taken None x = true
taken (Some (Full c e)) x = permits e (unsigned_abs x)
taken (Some (Short c)) x = true

abbrev pub taken_number : Option Number → ℤ → Bool
taken_number None n = true
taken_number (Some (Signed k u w)) n = allows w n
taken_number (Some (Unsigned k u w)) n = allows w n

-- a vector register
abbrev pub vectored : Option Use → Bool
vectored None = false
vectored (Some (Full Integer e)) = false
vectored (Some (Full Float e)) = false
vectored (Some (Full Vector e)) = true
vectored (Some (Short c)) = false

-- ---- the tests in order, each with its fault

pub data Check : Type 0 where
  check : Bool → BuildFault → Check

abbrev pub first : List Check → Option BuildFault
first [] = None
first (check b e ∷ s) = cond b (first s) (Some e)

abbrev pub unused_checks : Form → Fields → List Check
unused_checks r f =
    check (idle r.d f.d) (Unused D f.d)
    ∷ check (idle r.a f.a) (Unused A f.a)
    ∷ check (idle r.b f.b) (Unused field.B f.b)
    ∷ check (idle r.n f.n) (Unused N f.n)
    ∷ check (idle r.m f.m) (Unused M f.m)
    ∷ []

abbrev pub range_checks : Form → Fields → List Check
range_checks r f =
    check (reg_ok r.d f.d) (Register D f.d)
    ∷ check (reg_ok r.a f.a) (Register A f.a)
    ∷ check (reg_ok r.b f.b) (Register field.B f.b)
    ∷ check (number_ok r.n f.n) (Constant f.n)
    ∷ check (mask_ok r.m f.m) (MaskBit f.m)
    ∷ []

abbrev pub rule_checks : Form → Fields → List Check
rule_checks r f =
    check (taken r.d f.d) (Forbidden D f.d)
    ∷ check (taken r.a f.a) (Forbidden A f.a)
    ∷ check (taken r.b f.b) (Forbidden field.B f.b)
    ∷ check (taken_number r.n f.n) (Forbidden N f.n)
    ∷ check (mask_rule r.m f.m) (Masked f.m)
    ∷ []

-- where something is forbidden, x and y differ
abbrev pub unlike : Bool → ℤ → ℕ → Bool
unlike true x y = not (unsigned_abs x == y)
unlike false x y = true

abbrev pub overlap_checks : Form → Fields → List Check
overlap_checks r f =
    check (unlike r.forbids.sources f.d (unsigned_abs f.b)) (Overlap field.B)
    ∷ check (unlike (r.forbids.sources && vectored r.a) f.d (unsigned_abs f.a)) (Overlap A)
    ∷ check (unlike (r.forbids.mask && unsigned_abs f.m == 1) f.d 0) (Overlap M)
    ∷ []

abbrev pub or_else : Option BuildFault → Option BuildFault → Option BuildFault
or_else (Some e) o = Some e
or_else None o = o

-- the first fault of the fields, as an instruction of that form
abbrev pub fault : Form → Fields → Option BuildFault
fault r f = or_else (first (unused_checks r f)) (or_else (first (range_checks r f)) (or_else (first (rule_checks r f)) (first (overlap_checks r f))))

-- what a check answers: the fault, if there is one
abbrev pub Finds : Result (Unit {0}) BuildFault → Option BuildFault → Type 0
Finds (Ok u) o = o ≡ None
Finds (Err e) o = o ≡ Some e

abbrev pub is_none : Option BuildFault → Bool
is_none None = true
is_none (Some e) = false

abbrev pub lawful : Form → Fields → Bool
lawful r f = is_none (fault r f)

-- build takes no jump
abbrev pub build_fault : Form → Fields → Option BuildFault
build_fault r f = cond (reaches r.kind) (Some Jump) (fault r f)

-- a constant's width and unit, as the code can handle them
pub record SomeBits (k u : ℕ) : Type 0 where
  pub wide : 0 < k
  pub narrow : k < 32
  pub some : 0 < u
  pub small : u ≤ 16

abbrev pub Workable : Option Number → Type 0
Workable None = Unit {0}
Workable (Some (Signed k u w)) = SomeBits k u
Workable (Some (Unsigned k u w)) = SomeBits k u

SomeBits-prop : (k u : ℕ) → IsProp (SomeBits k u)
SomeBits-prop k u a b i = record { wide = le_prop a.wide b.wide i; narrow = le_prop a.narrow b.narrow i; some = le_prop a.some b.some i; small = le_prop a.small b.small i }

-- there is one proof of it at most
pub Workable-prop : (n : Option Number) → IsProp (Workable n)
Workable-prop None = Unit-prop
Workable-prop (Some (Signed k u w)) = SomeBits-prop k u
Workable-prop (Some (Unsigned k u w)) = SomeBits-prop k u
