-- The fields that stand in the word of each format's operands, and when operands are lawful.
use Rattle.std.specs.Prelude.{List, [], ◌∷◌, Option}
use Rattle.bits.specs.declared.part.Values.{Values}
use Rattle.bits.specs.Twos.{twos}
use Rattle.operands.specs.Masks.{mask_bit}
use Rattle.formats.specs.declared.faults.WideCode.{WideCode}
use Rattle.formats.specs.declared.faults.WideCode.TheVariants.{Opcode, Funct3, Funct6}
use Rattle.formats.specs.Lawful.{Check, check, first_wide}
use Rattle.vectors.specs.declared.operands_of.VOperands.{VOperands}
use Rattle.vectors.specs.declared.operands_of.VImmOperands.{VImmOperands}
use Rattle.vectors.specs.declared.operands_of.VMemOperands.{VMemOperands}

abbrev pub V-values : VOperands → Values
V-values o = record {
  d = o.vd.value;
  a = o.vs1.value;
  b = o.vs2.value;
  n = 0;
  m = mask_bit o.masking;
  opcode = o.opcode;
  funct3 = o.funct3;
  funct = o.funct6;
}

abbrev pub V-codes : VOperands → List Check
V-codes o = check o.opcode 7 Opcode ∷ check o.funct3 3 Funct3 ∷ check o.funct6 6 Funct6 ∷ []

abbrev pub V-fault : VOperands → Option WideCode
V-fault o = first_wide (V-codes o)

abbrev pub VImm-values : VImmOperands → Values
VImm-values o = record {
  d = o.vd.value;
  a = 0;
  b = o.vs2.value;
  n = twos 5 o.imm.value;
  m = mask_bit o.masking;
  opcode = o.opcode;
  funct3 = o.funct3;
  funct = o.funct6;
}

abbrev pub VImm-codes : VImmOperands → List Check
VImm-codes o = check o.opcode 7 Opcode ∷ check o.funct3 3 Funct3 ∷ check o.funct6 6 Funct6 ∷ []

abbrev pub VImm-fault : VImmOperands → Option WideCode
VImm-fault o = first_wide (VImm-codes o)

abbrev pub VMem-values : VMemOperands → Values
VMem-values o = record {
  d = o.vd.value;
  a = o.rs1.value;
  b = 0;
  n = 0;
  m = mask_bit o.masking;
  opcode = o.opcode;
  funct3 = o.width;
  funct = 0;
}

abbrev pub VMem-codes : VMemOperands → List Check
VMem-codes o = check o.opcode 7 Opcode ∷ check o.width 3 Funct3 ∷ []

abbrev pub VMem-fault : VMemOperands → Option WideCode
VMem-fault o = first_wide (VMem-codes o)
