-- Fields at another constant.
use Rattle.std.specs.Prelude.{ℕ}
use Rattle.bits.specs.declared.part.Values.{Values}

-- the fields v, but with the constant x
abbrev pub with_n : Values → ℕ → Values
with_n v x = record {
  d = v.d;
  a = v.a;
  b = v.b;
  n = x;
  m = v.m;
  opcode = v.opcode;
  funct3 = v.funct3;
  funct = v.funct;
}
