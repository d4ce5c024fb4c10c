-- The fields that stand in the word of each format's operands, and when operands are lawful.
use Rattle.std.specs.Prelude.{List, [], ◌∷◌, Option}
use Rattle.bits.specs.declared.part.Values.{Values}
use Rattle.bits.specs.Twos.{twos}
use Rattle.formats.specs.declared.faults.WideCode.{WideCode}
use Rattle.formats.specs.declared.faults.WideCode.TheVariants.{Opcode, Funct4, Funct2, Funct6, Funct3}
use Rattle.formats.specs.Lawful.{Check, check, first_wide}
use Rattle.short.specs.declared.operands_of.CrOperands.{CrOperands}
use Rattle.short.specs.declared.operands_of.Cr2Operands.{Cr2Operands}
use Rattle.short.specs.declared.operands_of.CrBareOperands.{CrBareOperands}
use Rattle.short.specs.declared.operands_of.CaOperands.{CaOperands}
use Rattle.short.specs.declared.operands_of.CiOperands.{CiOperands}
use Rattle.short.specs.declared.operands_of.CiwOperands.{CiwOperands}
use Rattle.short.specs.declared.operands_of.CbOperands.{CbOperands}

abbrev pub Cr-values : CrOperands → Values
Cr-values o = record {
  d = o.rd.value;
  a = 0;
  b = o.rs2.value;
  n = 0;
  m = 0;
  opcode = o.opcode;
  funct3 = 0;
  funct = o.funct4;
}

abbrev pub Cr-codes : CrOperands → List Check
Cr-codes o = check o.opcode 2 Opcode ∷ check o.funct4 4 Funct4 ∷ []

abbrev pub Cr-fault : CrOperands → Option WideCode
Cr-fault o = first_wide (Cr-codes o)

abbrev pub Cr2-values : Cr2Operands → Values
Cr2-values o = record {
  d = 0;
  a = o.rs1.value;
  b = 0;
  n = 0;
  m = 0;
  opcode = o.opcode;
  funct3 = 0;
  funct = o.funct4;
}

abbrev pub Cr2-codes : Cr2Operands → List Check
Cr2-codes o = check o.opcode 2 Opcode ∷ check o.funct4 4 Funct4 ∷ []

abbrev pub Cr2-fault : Cr2Operands → Option WideCode
Cr2-fault o = first_wide (Cr2-codes o)

abbrev pub CrBare-values : CrBareOperands → Values
CrBare-values o = record {
  d = 0;
  a = 0;
  b = 0;
  n = 0;
  m = 0;
  opcode = o.opcode;
  funct3 = 0;
  funct = o.funct4;
}

abbrev pub CrBare-codes : CrBareOperands → List Check
CrBare-codes o = check o.opcode 2 Opcode ∷ check o.funct4 4 Funct4 ∷ []

abbrev pub CrBare-fault : CrBareOperands → Option WideCode
CrBare-fault o = first_wide (CrBare-codes o)

abbrev pub Ca-values : CaOperands → Values
Ca-values o = record {
  d = o.rd.value;
  a = 0;
  b = o.rs2.value;
  n = 0;
  m = 0;
  opcode = o.opcode;
  funct3 = o.funct2;
  funct = o.funct6;
}

abbrev pub Ca-codes : CaOperands → List Check
Ca-codes o = check o.opcode 2 Opcode ∷ check o.funct2 2 Funct2 ∷ check o.funct6 6 Funct6 ∷ []

abbrev pub Ca-fault : CaOperands → Option WideCode
Ca-fault o = first_wide (Ca-codes o)

abbrev pub Ci-values : CiOperands → Values
Ci-values o = record {
  d = o.rd.value;
  a = 0;
  b = 0;
  n = twos 6 o.imm.value;
  m = 0;
  opcode = o.opcode;
  funct3 = o.funct3;
  funct = 0;
}

abbrev pub Ci-codes : CiOperands → List Check
Ci-codes o = check o.opcode 2 Opcode ∷ check o.funct3 3 Funct3 ∷ []

abbrev pub Ci-fault : CiOperands → Option WideCode
Ci-fault o = first_wide (Ci-codes o)

abbrev pub Ciw-values : CiwOperands → Values
Ciw-values o = record {
  d = o.rd.value;
  a = 0;
  b = 0;
  n = o.imm.value;
  m = 0;
  opcode = o.opcode;
  funct3 = o.funct3;
  funct = 0;
}

abbrev pub Ciw-codes : CiwOperands → List Check
Ciw-codes o = check o.opcode 2 Opcode ∷ check o.funct3 3 Funct3 ∷ []

abbrev pub Ciw-fault : CiwOperands → Option WideCode
Ciw-fault o = first_wide (Ciw-codes o)

abbrev pub Cb-values : CbOperands → Values
Cb-values o = record {
  d = o.rd.value;
  a = 0;
  b = 0;
  n = twos 6 o.imm.value;
  m = 0;
  opcode = o.opcode;
  funct3 = o.funct3;
  funct = o.funct2;
}

abbrev pub Cb-codes : CbOperands → List Check
Cb-codes o = check o.opcode 2 Opcode ∷ check o.funct2 2 Funct2 ∷ check o.funct3 3 Funct3 ∷ []

abbrev pub Cb-fault : CbOperands → Option WideCode
Cb-fault o = first_wide (Cb-codes o)
