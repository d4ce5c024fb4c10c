-- The fields that stand in the word of each format's operands, and when operands are lawful.
use Rattle.std.specs.Prelude.{List, [], ◌∷◌, Option}
use Rattle.bits.specs.declared.part.Values.{Values}
use Rattle.operands.specs.Ranges.{halved}
use Rattle.formats.specs.declared.faults.WideCode.{WideCode}
use Rattle.formats.specs.declared.faults.WideCode.TheVariants.{Opcode, Funct3}
use Rattle.formats.specs.Lawful.{Check, check, first_wide}
use Rattle.jumps.specs.declared.operands_of.BOperands.{BOperands}
use Rattle.jumps.specs.declared.operands_of.JOperands.{JOperands}
use Rattle.jumps.specs.declared.operands_of.CjOperands.{CjOperands}

abbrev pub B-values : BOperands → Values
B-values o = record {
  d = 0;
  a = o.rs1.value;
  b = o.rs2.value;
  n = halved 12 o.distance.value;
  m = 0;
  opcode = o.opcode;
  funct3 = o.funct3;
  funct = 0;
}

abbrev pub B-codes : BOperands → List Check
B-codes o = check o.opcode 7 Opcode ∷ check o.funct3 3 Funct3 ∷ []

abbrev pub B-fault : BOperands → Option WideCode
B-fault o = first_wide (B-codes o)

abbrev pub J-values : JOperands → Values
J-values o = record {
  d = o.rd.value;
  a = 0;
  b = 0;
  n = halved 20 o.distance.value;
  m = 0;
  opcode = o.opcode;
  funct3 = 0;
  funct = 0;
}

abbrev pub J-codes : JOperands → List Check
J-codes o = check o.opcode 7 Opcode ∷ []

abbrev pub J-fault : JOperands → Option WideCode
J-fault o = first_wide (J-codes o)

abbrev pub Cj-values : CjOperands → Values
Cj-values o = record {
  d = 0;
  a = 0;
  b = 0;
  n = halved 11 o.distance.value;
  m = 0;
  opcode = o.opcode;
  funct3 = o.funct3;
  funct = 0;
}

abbrev pub Cj-codes : CjOperands → List Check
Cj-codes o = check o.opcode 2 Opcode ∷ check o.funct3 3 Funct3 ∷ []

abbrev pub Cj-fault : CjOperands → Option WideCode
Cj-fault o = first_wide (Cj-codes o)
