-- The fields that stand in the word of each format's operands, and when operands are lawful.
use Rattle.std.specs.Prelude.{List, [], ◌∷◌, Option}
use Rattle.bits.specs.declared.part.Values.{Values}
use Rattle.formats.specs.declared.faults.WideCode.{WideCode}
use Rattle.formats.specs.declared.faults.WideCode.TheVariants.{Opcode, Funct3}
use Rattle.formats.specs.Lawful.{Check, check, first_wide}
use Rattle.memory.specs.declared.operands_of.CsOperands.{CsOperands}
use Rattle.memory.specs.declared.operands_of.ClOperands.{ClOperands}

abbrev pub Cs-values : CsOperands → Values
Cs-values o = record {
  d = 0;
  a = o.base.value;
  b = o.src.value;
  n = o.imm.value;
  m = 0;
  opcode = o.opcode;
  funct3 = o.funct3;
  funct = 0;
}

abbrev pub Cs-codes : CsOperands → List Check
Cs-codes o = check o.opcode 2 Opcode ∷ check o.funct3 3 Funct3 ∷ []

abbrev pub Cs-fault : CsOperands → Option WideCode
Cs-fault o = first_wide (Cs-codes o)

abbrev pub Cl-values : ClOperands → Values
Cl-values o = record {
  d = o.rd.value;
  a = o.base.value;
  b = 0;
  n = o.imm.value;
  m = 0;
  opcode = o.opcode;
  funct3 = o.funct3;
  funct = 0;
}

abbrev pub Cl-codes : ClOperands → List Check
Cl-codes o = check o.opcode 2 Opcode ∷ check o.funct3 3 Funct3 ∷ []

abbrev pub Cl-fault : ClOperands → Option WideCode
Cl-fault o = first_wide (Cl-codes o)
