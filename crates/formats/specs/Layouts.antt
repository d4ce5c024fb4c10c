-- The formats of the unprivileged manual, the C extension and Vector 1.0, as they print them, here from bit 0 up. The constant N
-- stands in units: a distance is halved, an offset is divided by the size of what it reaches (4 for CIW, 16 for c.addi16sp).
use Rattle.std.specs.Prelude.{ℕ, ◌/◌, List, [], ◌∷◌}
use Rattle.bits.specs.declared.part.Field.TheVariants.{D, A, B, N, M, Opcode, Funct3, Funct}
use Rattle.bits.specs.declared.part.Part.{Part}
use Rattle.bits.specs.declared.part.Part.TheVariants.{Fixed, Slice}
use Rattle.bits.specs.Layout.{total}
use Rattle.formats.specs.declared.kind.Kind.{Kind}
use Rattle.formats.specs.declared.kind.Kind.TheVariants as kind

abbrev pub layout : Kind → List Part
-- funct7, rs2, rs1, funct3, rd, opcode
layout kind.R = Slice Opcode 0 7 ∷ Slice D 0 5 ∷ Slice Funct3 0 3 ∷ Slice A 0 5 ∷ Slice B 0 5 ∷ Slice Funct 0 7 ∷ []
-- imm[11:0], rs1, funct3, rd, opcode
layout kind.I = Slice Opcode 0 7 ∷ Slice D 0 5 ∷ Slice Funct3 0 3 ∷ Slice A 0 5 ∷ Slice N 0 12 ∷ []
-- imm[11:5], rs2, rs1, funct3, imm[4:0], opcode
layout kind.S = Slice Opcode 0 7 ∷ Slice N 0 5 ∷ Slice Funct3 0 3 ∷ Slice A 0 5 ∷ Slice B 0 5 ∷ Slice N 5 7 ∷ []
-- imm[31:12], rd, opcode
layout kind.U = Slice Opcode 0 7 ∷ Slice D 0 5 ∷ Slice N 0 20 ∷ []
-- imm[12|10:5], rs2, rs1, funct3, imm[4:1|11], opcode
layout kind.B = Slice Opcode 0 7 ∷ Slice N 10 1 ∷ Slice N 0 4 ∷ Slice Funct3 0 3 ∷ Slice A 0 5 ∷ Slice B 0 5 ∷ Slice N 4 6 ∷ Slice N 11 1 ∷ []
-- imm[20|10:1|11|19:12], rd, opcode
layout kind.J = Slice Opcode 0 7 ∷ Slice D 0 5 ∷ Slice N 11 8 ∷ Slice N 10 1 ∷ Slice N 0 10 ∷ Slice N 19 1 ∷ []
-- funct6, vm, vs2, vs1, funct3, vd, opcode
layout kind.V = Slice Opcode 0 7 ∷ Slice D 0 5 ∷ Slice Funct3 0 3 ∷ Slice A 0 5 ∷ Slice B 0 5 ∷ Slice M 0 1 ∷ Slice Funct 0 6 ∷ []
-- funct6, vm, vs2, imm[4:0], funct3, vd, opcode
layout kind.VImm = Slice Opcode 0 7 ∷ Slice D 0 5 ∷ Slice Funct3 0 3 ∷ Slice N 0 5 ∷ Slice B 0 5 ∷ Slice M 0 1 ∷ Slice Funct 0 6 ∷ []
-- nf, mew, mop, vm, lumop or sumop, rs1, width, vd or vs3, opcode
layout kind.VMem = Slice Opcode 0 7 ∷ Slice D 0 5 ∷ Slice Funct3 0 3 ∷ Slice A 0 5 ∷ Fixed 5 0 ∷ Slice M 0 1 ∷ Fixed 2 0 ∷ Fixed 1 0 ∷ Fixed 3 0 ∷ []
-- funct4, rd, rs2, op
layout kind.Cr = Slice Opcode 0 2 ∷ Slice B 0 5 ∷ Slice D 0 5 ∷ Slice Funct 0 4 ∷ []
-- funct4, rs1, 0, op
layout kind.Cr2 = Slice Opcode 0 2 ∷ Fixed 5 0 ∷ Slice A 0 5 ∷ Slice Funct 0 4 ∷ []
-- funct4, 0, 0, op
layout kind.CrBare = Slice Opcode 0 2 ∷ Fixed 5 0 ∷ Fixed 5 0 ∷ Slice Funct 0 4 ∷ []
-- funct6, rd', funct2, rs2', op
layout kind.Ca = Slice Opcode 0 2 ∷ Slice B 0 3 ∷ Slice Funct3 0 2 ∷ Slice D 0 3 ∷ Slice Funct 0 6 ∷ []
-- funct3, imm[11|4|9:8|10|6|7|3:1|5], op
layout kind.Cj = Slice Opcode 0 2 ∷ Slice N 4 1 ∷ Slice N 0 3 ∷ Slice N 6 1 ∷ Slice N 5 1 ∷ Slice N 9 1 ∷ Slice N 7 2 ∷ Slice N 3 1 ∷ Slice N 10 1 ∷ Slice Funct3 0 3 ∷ []
-- funct3, imm[5], rd, imm[4:0], op
layout kind.Ci = Slice Opcode 0 2 ∷ Slice N 0 5 ∷ Slice D 0 5 ∷ Slice N 5 1 ∷ Slice Funct3 0 3 ∷ []
-- funct3, uimm[5], rd, uimm[4:2|7:6], op
layout kind.CiLwsp = Slice Opcode 0 2 ∷ Slice N 4 2 ∷ Slice N 0 3 ∷ Slice D 0 5 ∷ Slice N 3 1 ∷ Slice Funct3 0 3 ∷ []
-- funct3, uimm[5], rd, uimm[4:3|8:6], op
layout kind.CiLdsp = Slice Opcode 0 2 ∷ Slice N 3 3 ∷ Slice N 0 2 ∷ Slice D 0 5 ∷ Slice N 2 1 ∷ Slice Funct3 0 3 ∷ []
-- funct3, nzimm[9], 2, nzimm[4|6|8:7|5], op
layout kind.CiAddi16sp = Slice Opcode 0 2 ∷ Slice N 1 1 ∷ Slice N 3 2 ∷ Slice N 2 1 ∷ Slice N 0 1 ∷ Fixed 5 2 ∷ Slice N 5 1 ∷ Slice Funct3 0 3 ∷ []
-- funct3, nzuimm[5:4|9:6|2|3], rd', op
layout kind.Ciw = Slice Opcode 0 2 ∷ Slice D 0 3 ∷ Slice N 1 1 ∷ Slice N 0 1 ∷ Slice N 4 4 ∷ Slice N 2 2 ∷ Slice Funct3 0 3 ∷ []
-- funct3, imm[5], funct2, rd', imm[4:0], op
layout kind.Cb = Slice Opcode 0 2 ∷ Slice N 0 5 ∷ Slice D 0 3 ∷ Slice Funct 0 2 ∷ Slice N 5 1 ∷ Slice Funct3 0 3 ∷ []
-- funct3, uimm[5:2|7:6], rs2, op
layout kind.CssWord = Slice Opcode 0 2 ∷ Slice B 0 5 ∷ Slice N 4 2 ∷ Slice N 0 4 ∷ Slice Funct3 0 3 ∷ []
-- funct3, uimm[5:3|8:6], rs2, op
layout kind.CssDouble = Slice Opcode 0 2 ∷ Slice B 0 5 ∷ Slice N 3 3 ∷ Slice N 0 3 ∷ Slice Funct3 0 3 ∷ []
-- funct3, uimm[5:3], rs1', uimm[2|6], rs2', op
layout kind.CsWord = Slice Opcode 0 2 ∷ Slice B 0 3 ∷ Slice N 4 1 ∷ Slice N 0 1 ∷ Slice A 0 3 ∷ Slice N 1 3 ∷ Slice Funct3 0 3 ∷ []
-- funct3, uimm[5:3], rs1', uimm[7:6], rs2', op
layout kind.CsDouble = Slice Opcode 0 2 ∷ Slice B 0 3 ∷ Slice N 3 2 ∷ Slice A 0 3 ∷ Slice N 0 3 ∷ Slice Funct3 0 3 ∷ []
-- funct3, uimm[5:3], rs1', uimm[2|6], rd', op
layout kind.ClWord = Slice Opcode 0 2 ∷ Slice D 0 3 ∷ Slice N 4 1 ∷ Slice N 0 1 ∷ Slice A 0 3 ∷ Slice N 1 3 ∷ Slice Funct3 0 3 ∷ []
-- funct3, uimm[5:3], rs1', uimm[7:6], rd', op
layout kind.ClDouble = Slice Opcode 0 2 ∷ Slice D 0 3 ∷ Slice N 3 2 ∷ Slice A 0 3 ∷ Slice N 0 3 ∷ Slice Funct3 0 3 ∷ []

-- how many halfwords a word of the format has
abbrev pub size : Kind → ℕ
size k = total (layout k) / 16
