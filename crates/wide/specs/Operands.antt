-- The fields that stand in the word of each format's operands, and when operands are lawful.
use Rattle.std.specs.Prelude.{List, [], ◌∷◌, Option}
use Rattle.bits.specs.declared.part.Values.{Values}
use Rattle.bits.specs.Twos.{twos}
use Rattle.formats.specs.declared.faults.WideCode.{WideCode}
use Rattle.formats.specs.declared.faults.WideCode.TheVariants.{Opcode, Funct3, Funct7}
use Rattle.formats.specs.Lawful.{Check, check, first_wide}
use Rattle.wide.specs.declared.operands_of.ROperands.{ROperands}
use Rattle.wide.specs.declared.operands_of.IOperands.{IOperands}
use Rattle.wide.specs.declared.operands_of.SOperands.{SOperands}
use Rattle.wide.specs.declared.operands_of.UOperands.{UOperands}

abbrev pub R-values : ROperands → Values
R-values o = record {
  d = o.rd.value;
  a = o.rs1.value;
  b = o.rs2.value;
  n = 0;
  m = 0;
  opcode = o.opcode;
  funct3 = o.funct3;
  funct = o.funct7;
}

abbrev pub R-codes : ROperands → List Check
R-codes o = check o.opcode 7 Opcode ∷ check o.funct3 3 Funct3 ∷ check o.funct7 7 Funct7 ∷ []

abbrev pub R-fault : ROperands → Option WideCode
R-fault o = first_wide (R-codes o)

abbrev pub I-values : IOperands → Values
I-values o = record {
  d = o.rd.value;
  a = o.rs1.value;
  b = 0;
  n = twos 12 o.imm.value;
  m = 0;
  opcode = o.opcode;
  funct3 = o.funct3;
  funct = 0;
}

abbrev pub I-codes : IOperands → List Check
I-codes o = check o.opcode 7 Opcode ∷ check o.funct3 3 Funct3 ∷ []

abbrev pub I-fault : IOperands → Option WideCode
I-fault o = first_wide (I-codes o)

abbrev pub S-values : SOperands → Values
S-values o = record {
  d = 0;
  a = o.rs1.value;
  b = o.rs2.value;
  n = twos 12 o.imm.value;
  m = 0;
  opcode = o.opcode;
  funct3 = o.funct3;
  funct = 0;
}

abbrev pub S-codes : SOperands → List Check
S-codes o = check o.opcode 7 Opcode ∷ check o.funct3 3 Funct3 ∷ []

abbrev pub S-fault : SOperands → Option WideCode
S-fault o = first_wide (S-codes o)

abbrev pub U-values : UOperands → Values
U-values o = record {
  d = o.rd.value;
  a = 0;
  b = 0;
  n = twos 20 o.imm.value;
  m = 0;
  opcode = o.opcode;
  funct3 = 0;
  funct = 0;
}

abbrev pub U-codes : UOperands → List Check
U-codes o = check o.opcode 7 Opcode ∷ []

abbrev pub U-fault : UOperands → Option WideCode
U-fault o = first_wide (U-codes o)
