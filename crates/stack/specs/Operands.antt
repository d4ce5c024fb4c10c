-- The fields that stand in the word of each format's operands, and when operands are lawful.
use Rattle.std.specs.Prelude.{List, [], ◌∷◌, Option}
use Rattle.bits.specs.declared.part.Values.{Values}
use Rattle.bits.specs.Twos.{twos}
use Rattle.formats.specs.declared.faults.WideCode.{WideCode}
use Rattle.formats.specs.declared.faults.WideCode.TheVariants.{Opcode, Funct3}
use Rattle.formats.specs.Lawful.{Check, check, first_wide}
use Rattle.stack.specs.declared.operands_of.CiLoadOperands.{CiLoadOperands}
use Rattle.stack.specs.declared.operands_of.CiAddi16spOperands.{CiAddi16spOperands}
use Rattle.stack.specs.declared.operands_of.CssOperands.{CssOperands}

abbrev pub CiLoad-values : CiLoadOperands → Values
CiLoad-values o = record {
  d = o.rd.value;
  a = 0;
  b = 0;
  n = o.imm.value;
  m = 0;
  opcode = o.opcode;
  funct3 = o.funct3;
  funct = 0;
}

abbrev pub CiLoad-codes : CiLoadOperands → List Check
CiLoad-codes o = check o.opcode 2 Opcode ∷ check o.funct3 3 Funct3 ∷ []

abbrev pub CiLoad-fault : CiLoadOperands → Option WideCode
CiLoad-fault o = first_wide (CiLoad-codes o)

abbrev pub CiAddi16sp-values : CiAddi16spOperands → Values
CiAddi16sp-values o = record {
  d = 0;
  a = 0;
  b = 0;
  n = twos 6 o.imm.value;
  m = 0;
  opcode = o.opcode;
  funct3 = o.funct3;
  funct = 0;
}

abbrev pub CiAddi16sp-codes : CiAddi16spOperands → List Check
CiAddi16sp-codes o = check o.opcode 2 Opcode ∷ check o.funct3 3 Funct3 ∷ []

abbrev pub CiAddi16sp-fault : CiAddi16spOperands → Option WideCode
CiAddi16sp-fault o = first_wide (CiAddi16sp-codes o)

abbrev pub Css-values : CssOperands → Values
Css-values o = record {
  d = 0;
  a = 0;
  b = o.src.value;
  n = o.imm.value;
  m = 0;
  opcode = o.opcode;
  funct3 = o.funct3;
  funct = 0;
}

abbrev pub Css-codes : CssOperands → List Check
Css-codes o = check o.opcode 2 Opcode ∷ check o.funct3 3 Funct3 ∷ []

abbrev pub Css-fault : CssOperands → Option WideCode
Css-fault o = first_wide (Css-codes o)
