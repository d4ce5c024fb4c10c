-- The instruction's fields that stand in a word.
use Rattle.std.specs.Prelude.{ℕ, ◌+◌, ◌-◌, ◌*◌, ◌^◌, ◌<◌, cond, Some, None, Option, ℤ, pos, negsuc, nat_lt}
use Rattle.bits.specs.declared.part.Values.{Values}
use Rattle.operations.specs.declared.row.Use.{Use}
use Rattle.operations.specs.declared.row.Use.TheVariants.{Full, Short}
use Rattle.operations.specs.declared.row.Number.{Number}
use Rattle.operations.specs.declared.row.Number.TheVariants.{Signed, Unsigned}
use Rattle.operations.specs.declared.row.Masking.{Masking}
use Rattle.operations.specs.declared.row.Form.{Form}
use Rattle.instructions.specs.declared.fields.Fields.{Fields}

abbrev pub reg_of : Option Use → ℕ → ℤ
reg_of None x = pos 0
reg_of (Some (Full c e)) x = pos x
reg_of (Some (Short c)) x = pos (x + 8)

-- k bits read as a signed number, times the unit
abbrev pub signed_units : ℕ → ℕ → ℕ → ℤ
signed_units k u x = cond (nat_lt x (2 ^ (k - 1))) (pos (x * u)) (negsuc ((2 ^ k - x) * u - 1))

abbrev pub number_of : Option Number → ℕ → ℤ
number_of None x = pos 0
number_of (Some (Signed k u w)) x = signed_units k u x
number_of (Some (Unsigned k u w)) x = pos (x * u)

abbrev pub mask_of : Option Masking → ℕ → ℤ
mask_of None x = pos 0
mask_of (Some u) x = pos (1 - x)

abbrev pub fields_of : Form → Values → Fields
fields_of r v = record {
  d = reg_of r.d v.d;
  a = reg_of r.a v.a;
  b = reg_of r.b v.b;
  n = number_of r.n v.n;
  m = mask_of r.m v.m;
}

-- what the code asks: no field is wider than its place
abbrev pub Narrow : Option Number → ℕ → Type 0
Narrow None x = Unit {0}
Narrow (Some (Signed k u w)) x = x < 2 ^ k
Narrow (Some (Unsigned k u w)) x = x < 2 ^ k

pub record Narrows (r : Form) (v : Values) : Type 0 where
  pub d : v.d < 32
  pub a : v.a < 32
  pub b : v.b < 32
  pub n : Narrow r.n v.n
  pub m : v.m < 2
