-- Each operation stands in the manuals' list at the place of its name.
use Rattle.std.proofs.Common.{◌≡◌, ℕ, ◌+◌, Bool, true, false, ◌&&◌, eqb, ltb, List, Some, refl}
use Rattle.std.specs.Option.{is_some}
use Rattle.std.proofs.lemmas.Bool.{and_parts, eqb-true, ltb-true}
use denote.Enum.Declared.{tag_of}
use Rattle.args.specs.declared.VecElementWidth.TheVariants.{E8, E16, E32, E64}
use Rattle.args.specs.contracts.VecElementWidth.{the_type as width-type}
use Rattle.args.specs.declared.VecElementWidth.{VecElementWidth}
use Rattle.operations.specs.declared.row.Form.{Form}
use Rattle.operations.specs.Manual.{operations, form_at}
use Rattle.operations.specs.Names.{named}
use Rattle.vector_operations.specs.contracts.rrr.VecAluOpRRR.{the_type as VecAluOpRRR-type}
use Rattle.vector_operations.specs.declared.rrr.VecAluOpRRR.{VecAluOpRRR}
use Rattle.vector_operations.specs.declared.rrr.VecAluOpRRR.TheVariants as VecAluOpRRR-variant
use Rattle.vector_operations.specs.contracts.rrrr.VecAluOpRRRR.{the_type as VecAluOpRRRR-type}
use Rattle.vector_operations.specs.declared.rrrr.VecAluOpRRRR.{VecAluOpRRRR}
use Rattle.vector_operations.specs.declared.rrrr.VecAluOpRRRR.TheVariants as VecAluOpRRRR-variant
use Rattle.vector_operations.specs.contracts.rr_imm5.VecAluOpRRImm5.{the_type as VecAluOpRRImm5-type}
use Rattle.vector_operations.specs.declared.rr_imm5.VecAluOpRRImm5.{VecAluOpRRImm5}
use Rattle.vector_operations.specs.declared.rr_imm5.VecAluOpRRImm5.TheVariants as VecAluOpRRImm5-variant
use Rattle.vector_operations.specs.contracts.rrr_imm5.VecAluOpRRRImm5.{the_type as VecAluOpRRRImm5-type}
use Rattle.vector_operations.specs.declared.rrr_imm5.VecAluOpRRRImm5.{VecAluOpRRRImm5}
use Rattle.vector_operations.specs.declared.rrr_imm5.VecAluOpRRRImm5.TheVariants as VecAluOpRRRImm5-variant
use Rattle.vector_operations.specs.declared.mem.VecMemOp.TheVariants.{Load, Store}
use Rattle.vector_operations.specs.Names.{VecMemOp-name, VecAluOpRRR-name, VecAluOpRRRR-name, VecAluOpRRImm5-name, VecAluOpRRRImm5-name}
use Rattle.vector_operations.specs.Codes.{Arithmetic}

abbrev sound : Form → Bool
sound f = eqb f.opcode 87 && (ltb f.funct3 8 && ltb f.funct 64)

arithmetic_of : (f : Form) → sound f ≡ true → Arithmetic f
arithmetic_of f t =
    let s = and_parts (eqb f.opcode 87) (ltb f.funct3 8 && ltb f.funct 64) t in
    let codes = and_parts (ltb f.funct3 8) (ltb f.funct 64) s.1 in
    record { opcode = eqb-true f.opcode 87 s.0; funct3 = ltb-true f.funct3 8 codes.0; funct6 = ltb-true f.funct 64 codes.1 }

-- the place of a name, what stands in the place of vs1, and that it is arithmetic
abbrev Stands : Bool → List ℕ → ℕ → Type 0
Stands register name p = (Some p ≡ named operations name) × ((is_some (form_at p).a ≡ register) × Arithmetic (form_at p))

pub rrr_place : (op : VecAluOpRRR) → Stands true (VecAluOpRRR-name op) (36 + tag_of VecAluOpRRR-type op)
unfolding operations
rrr_place VecAluOpRRR-variant.VaddVV = (refl, (refl, arithmetic_of _ refl))
rrr_place VecAluOpRRR-variant.VaddVX = (refl, (refl, arithmetic_of _ refl))
rrr_place VecAluOpRRR-variant.VfaddVV = (refl, (refl, arithmetic_of _ refl))
rrr_place VecAluOpRRR-variant.VfaddVF = (refl, (refl, arithmetic_of _ refl))
rrr_place VecAluOpRRR-variant.VsubVV = (refl, (refl, arithmetic_of _ refl))
rrr_place VecAluOpRRR-variant.VsubVX = (refl, (refl, arithmetic_of _ refl))
rrr_place VecAluOpRRR-variant.VfsubVV = (refl, (refl, arithmetic_of _ refl))
rrr_place VecAluOpRRR-variant.VfsubVF = (refl, (refl, arithmetic_of _ refl))
rrr_place VecAluOpRRR-variant.VrsubVX = (refl, (refl, arithmetic_of _ refl))
rrr_place VecAluOpRRR-variant.VmulVV = (refl, (refl, arithmetic_of _ refl))
rrr_place VecAluOpRRR-variant.VmulVX = (refl, (refl, arithmetic_of _ refl))
rrr_place VecAluOpRRR-variant.VmulhVV = (refl, (refl, arithmetic_of _ refl))
rrr_place VecAluOpRRR-variant.VmulhVX = (refl, (refl, arithmetic_of _ refl))
rrr_place VecAluOpRRR-variant.VmulhuVV = (refl, (refl, arithmetic_of _ refl))
rrr_place VecAluOpRRR-variant.VmulhuVX = (refl, (refl, arithmetic_of _ refl))
rrr_place VecAluOpRRR-variant.VfmulVV = (refl, (refl, arithmetic_of _ refl))
rrr_place VecAluOpRRR-variant.VfmulVF = (refl, (refl, arithmetic_of _ refl))
rrr_place VecAluOpRRR-variant.VsmulVV = (refl, (refl, arithmetic_of _ refl))
rrr_place VecAluOpRRR-variant.VsmulVX = (refl, (refl, arithmetic_of _ refl))
rrr_place VecAluOpRRR-variant.VsllVV = (refl, (refl, arithmetic_of _ refl))
rrr_place VecAluOpRRR-variant.VsllVX = (refl, (refl, arithmetic_of _ refl))
rrr_place VecAluOpRRR-variant.VsrlVV = (refl, (refl, arithmetic_of _ refl))
rrr_place VecAluOpRRR-variant.VsrlVX = (refl, (refl, arithmetic_of _ refl))
rrr_place VecAluOpRRR-variant.VsraVV = (refl, (refl, arithmetic_of _ refl))
rrr_place VecAluOpRRR-variant.VsraVX = (refl, (refl, arithmetic_of _ refl))
rrr_place VecAluOpRRR-variant.VandVV = (refl, (refl, arithmetic_of _ refl))
rrr_place VecAluOpRRR-variant.VandVX = (refl, (refl, arithmetic_of _ refl))
rrr_place VecAluOpRRR-variant.VorVV = (refl, (refl, arithmetic_of _ refl))
rrr_place VecAluOpRRR-variant.VorVX = (refl, (refl, arithmetic_of _ refl))
rrr_place VecAluOpRRR-variant.VxorVV = (refl, (refl, arithmetic_of _ refl))
rrr_place VecAluOpRRR-variant.VxorVX = (refl, (refl, arithmetic_of _ refl))
rrr_place VecAluOpRRR-variant.VminuVV = (refl, (refl, arithmetic_of _ refl))
rrr_place VecAluOpRRR-variant.VminuVX = (refl, (refl, arithmetic_of _ refl))
rrr_place VecAluOpRRR-variant.VredminuVS = (refl, (refl, arithmetic_of _ refl))
rrr_place VecAluOpRRR-variant.VminVV = (refl, (refl, arithmetic_of _ refl))
rrr_place VecAluOpRRR-variant.VminVX = (refl, (refl, arithmetic_of _ refl))
rrr_place VecAluOpRRR-variant.VmaxuVV = (refl, (refl, arithmetic_of _ refl))
rrr_place VecAluOpRRR-variant.VmaxuVX = (refl, (refl, arithmetic_of _ refl))
rrr_place VecAluOpRRR-variant.VredmaxuVS = (refl, (refl, arithmetic_of _ refl))
rrr_place VecAluOpRRR-variant.VmaxVV = (refl, (refl, arithmetic_of _ refl))
rrr_place VecAluOpRRR-variant.VmaxVX = (refl, (refl, arithmetic_of _ refl))
rrr_place VecAluOpRRR-variant.VslidedownVX = (refl, (refl, arithmetic_of _ refl))
rrr_place VecAluOpRRR-variant.VfrsubVF = (refl, (refl, arithmetic_of _ refl))
rrr_place VecAluOpRRR-variant.VmergeVVM = (refl, (refl, arithmetic_of _ refl))
rrr_place VecAluOpRRR-variant.VmergeVXM = (refl, (refl, arithmetic_of _ refl))
rrr_place VecAluOpRRR-variant.VfmergeVFM = (refl, (refl, arithmetic_of _ refl))
rrr_place VecAluOpRRR-variant.VcompressVM = (refl, (refl, arithmetic_of _ refl))
rrr_place VecAluOpRRR-variant.VfdivVV = (refl, (refl, arithmetic_of _ refl))
rrr_place VecAluOpRRR-variant.VfdivVF = (refl, (refl, arithmetic_of _ refl))
rrr_place VecAluOpRRR-variant.VsadduVV = (refl, (refl, arithmetic_of _ refl))
rrr_place VecAluOpRRR-variant.VsadduVX = (refl, (refl, arithmetic_of _ refl))
rrr_place VecAluOpRRR-variant.VfrdivVF = (refl, (refl, arithmetic_of _ refl))
rrr_place VecAluOpRRR-variant.VsaddVV = (refl, (refl, arithmetic_of _ refl))
rrr_place VecAluOpRRR-variant.VsaddVX = (refl, (refl, arithmetic_of _ refl))
rrr_place VecAluOpRRR-variant.VfminVV = (refl, (refl, arithmetic_of _ refl))
rrr_place VecAluOpRRR-variant.VfmaxVV = (refl, (refl, arithmetic_of _ refl))
rrr_place VecAluOpRRR-variant.VssubuVV = (refl, (refl, arithmetic_of _ refl))
rrr_place VecAluOpRRR-variant.VssubuVX = (refl, (refl, arithmetic_of _ refl))
rrr_place VecAluOpRRR-variant.VssubVV = (refl, (refl, arithmetic_of _ refl))
rrr_place VecAluOpRRR-variant.VssubVX = (refl, (refl, arithmetic_of _ refl))
rrr_place VecAluOpRRR-variant.VfsgnjVV = (refl, (refl, arithmetic_of _ refl))
rrr_place VecAluOpRRR-variant.VfsgnjVF = (refl, (refl, arithmetic_of _ refl))
rrr_place VecAluOpRRR-variant.VfsgnjnVV = (refl, (refl, arithmetic_of _ refl))
rrr_place VecAluOpRRR-variant.VfsgnjxVV = (refl, (refl, arithmetic_of _ refl))
rrr_place VecAluOpRRR-variant.VrgatherVV = (refl, (refl, arithmetic_of _ refl))
rrr_place VecAluOpRRR-variant.VrgatherVX = (refl, (refl, arithmetic_of _ refl))
rrr_place VecAluOpRRR-variant.VwadduVV = (refl, (refl, arithmetic_of _ refl))
rrr_place VecAluOpRRR-variant.VwadduVX = (refl, (refl, arithmetic_of _ refl))
rrr_place VecAluOpRRR-variant.VwaddVV = (refl, (refl, arithmetic_of _ refl))
rrr_place VecAluOpRRR-variant.VwaddVX = (refl, (refl, arithmetic_of _ refl))
rrr_place VecAluOpRRR-variant.VwsubuVV = (refl, (refl, arithmetic_of _ refl))
rrr_place VecAluOpRRR-variant.VwsubuVX = (refl, (refl, arithmetic_of _ refl))
rrr_place VecAluOpRRR-variant.VwsubVV = (refl, (refl, arithmetic_of _ refl))
rrr_place VecAluOpRRR-variant.VwsubVX = (refl, (refl, arithmetic_of _ refl))
rrr_place VecAluOpRRR-variant.VwadduWV = (refl, (refl, arithmetic_of _ refl))
rrr_place VecAluOpRRR-variant.VwadduWX = (refl, (refl, arithmetic_of _ refl))
rrr_place VecAluOpRRR-variant.VwaddWV = (refl, (refl, arithmetic_of _ refl))
rrr_place VecAluOpRRR-variant.VwaddWX = (refl, (refl, arithmetic_of _ refl))
rrr_place VecAluOpRRR-variant.VwsubuWV = (refl, (refl, arithmetic_of _ refl))
rrr_place VecAluOpRRR-variant.VwsubuWX = (refl, (refl, arithmetic_of _ refl))
rrr_place VecAluOpRRR-variant.VwsubWV = (refl, (refl, arithmetic_of _ refl))
rrr_place VecAluOpRRR-variant.VwsubWX = (refl, (refl, arithmetic_of _ refl))
rrr_place VecAluOpRRR-variant.VmseqVV = (refl, (refl, arithmetic_of _ refl))
rrr_place VecAluOpRRR-variant.VmseqVX = (refl, (refl, arithmetic_of _ refl))
rrr_place VecAluOpRRR-variant.VmfeqVV = (refl, (refl, arithmetic_of _ refl))
rrr_place VecAluOpRRR-variant.VmfeqVF = (refl, (refl, arithmetic_of _ refl))
rrr_place VecAluOpRRR-variant.VmsneVV = (refl, (refl, arithmetic_of _ refl))
rrr_place VecAluOpRRR-variant.VmsneVX = (refl, (refl, arithmetic_of _ refl))
rrr_place VecAluOpRRR-variant.VmfleVV = (refl, (refl, arithmetic_of _ refl))
rrr_place VecAluOpRRR-variant.VmfleVF = (refl, (refl, arithmetic_of _ refl))
rrr_place VecAluOpRRR-variant.VmandMM = (refl, (refl, arithmetic_of _ refl))
rrr_place VecAluOpRRR-variant.VmsltuVV = (refl, (refl, arithmetic_of _ refl))
rrr_place VecAluOpRRR-variant.VmsltuVX = (refl, (refl, arithmetic_of _ refl))
rrr_place VecAluOpRRR-variant.VmorMM = (refl, (refl, arithmetic_of _ refl))
rrr_place VecAluOpRRR-variant.VmsltVV = (refl, (refl, arithmetic_of _ refl))
rrr_place VecAluOpRRR-variant.VmsltVX = (refl, (refl, arithmetic_of _ refl))
rrr_place VecAluOpRRR-variant.VmfltVV = (refl, (refl, arithmetic_of _ refl))
rrr_place VecAluOpRRR-variant.VmfltVF = (refl, (refl, arithmetic_of _ refl))
rrr_place VecAluOpRRR-variant.VmsleuVV = (refl, (refl, arithmetic_of _ refl))
rrr_place VecAluOpRRR-variant.VmsleuVX = (refl, (refl, arithmetic_of _ refl))
rrr_place VecAluOpRRR-variant.VmfneVV = (refl, (refl, arithmetic_of _ refl))
rrr_place VecAluOpRRR-variant.VmfneVF = (refl, (refl, arithmetic_of _ refl))
rrr_place VecAluOpRRR-variant.VmsleVV = (refl, (refl, arithmetic_of _ refl))
rrr_place VecAluOpRRR-variant.VmsleVX = (refl, (refl, arithmetic_of _ refl))
rrr_place VecAluOpRRR-variant.VmfgtVF = (refl, (refl, arithmetic_of _ refl))
rrr_place VecAluOpRRR-variant.VmnandMM = (refl, (refl, arithmetic_of _ refl))
rrr_place VecAluOpRRR-variant.VmsgtuVX = (refl, (refl, arithmetic_of _ refl))
rrr_place VecAluOpRRR-variant.VmnorMM = (refl, (refl, arithmetic_of _ refl))
rrr_place VecAluOpRRR-variant.VmsgtVX = (refl, (refl, arithmetic_of _ refl))
rrr_place VecAluOpRRR-variant.VmfgeVF = (refl, (refl, arithmetic_of _ refl))
rrr_place VecAluOpRRR-variant.VandnVV = (refl, (refl, arithmetic_of _ refl))
rrr_place VecAluOpRRR-variant.VandnVX = (refl, (refl, arithmetic_of _ refl))
rrr_place VecAluOpRRR-variant.VrorVV = (refl, (refl, arithmetic_of _ refl))
rrr_place VecAluOpRRR-variant.VrorVX = (refl, (refl, arithmetic_of _ refl))
rrr_place VecAluOpRRR-variant.VrolVV = (refl, (refl, arithmetic_of _ refl))
rrr_place VecAluOpRRR-variant.VrolVX = (refl, (refl, arithmetic_of _ refl))

pub rrrr_place : (op : VecAluOpRRRR) → Stands true (VecAluOpRRRR-name op) (152 + tag_of VecAluOpRRRR-type op)
unfolding operations
rrrr_place VecAluOpRRRR-variant.VmaccVV = (refl, (refl, arithmetic_of _ refl))
rrrr_place VecAluOpRRRR-variant.VmaccVX = (refl, (refl, arithmetic_of _ refl))
rrrr_place VecAluOpRRRR-variant.VnmsacVV = (refl, (refl, arithmetic_of _ refl))
rrrr_place VecAluOpRRRR-variant.VnmsacVX = (refl, (refl, arithmetic_of _ refl))
rrrr_place VecAluOpRRRR-variant.VfmaccVV = (refl, (refl, arithmetic_of _ refl))
rrrr_place VecAluOpRRRR-variant.VfmaccVF = (refl, (refl, arithmetic_of _ refl))
rrrr_place VecAluOpRRRR-variant.VfnmaccVV = (refl, (refl, arithmetic_of _ refl))
rrrr_place VecAluOpRRRR-variant.VfnmaccVF = (refl, (refl, arithmetic_of _ refl))
rrrr_place VecAluOpRRRR-variant.VfmsacVV = (refl, (refl, arithmetic_of _ refl))
rrrr_place VecAluOpRRRR-variant.VfmsacVF = (refl, (refl, arithmetic_of _ refl))
rrrr_place VecAluOpRRRR-variant.VfnmsacVV = (refl, (refl, arithmetic_of _ refl))
rrrr_place VecAluOpRRRR-variant.VfnmsacVF = (refl, (refl, arithmetic_of _ refl))
rrrr_place VecAluOpRRRR-variant.Vslide1upVX = (refl, (refl, arithmetic_of _ refl))

pub rr_imm5_place : (op : VecAluOpRRImm5) → Stands false (VecAluOpRRImm5-name op) (165 + tag_of VecAluOpRRImm5-type op)
unfolding operations
rr_imm5_place VecAluOpRRImm5-variant.VaddVI = (refl, (refl, arithmetic_of _ refl))
rr_imm5_place VecAluOpRRImm5-variant.VrsubVI = (refl, (refl, arithmetic_of _ refl))
rr_imm5_place VecAluOpRRImm5-variant.VsllVI = (refl, (refl, arithmetic_of _ refl))
rr_imm5_place VecAluOpRRImm5-variant.VsrlVI = (refl, (refl, arithmetic_of _ refl))
rr_imm5_place VecAluOpRRImm5-variant.VsraVI = (refl, (refl, arithmetic_of _ refl))
rr_imm5_place VecAluOpRRImm5-variant.VandVI = (refl, (refl, arithmetic_of _ refl))
rr_imm5_place VecAluOpRRImm5-variant.VorVI = (refl, (refl, arithmetic_of _ refl))
rr_imm5_place VecAluOpRRImm5-variant.VxorVI = (refl, (refl, arithmetic_of _ refl))
rr_imm5_place VecAluOpRRImm5-variant.VslidedownVI = (refl, (refl, arithmetic_of _ refl))
rr_imm5_place VecAluOpRRImm5-variant.VssrlVI = (refl, (refl, arithmetic_of _ refl))
rr_imm5_place VecAluOpRRImm5-variant.VmergeVIM = (refl, (refl, arithmetic_of _ refl))
rr_imm5_place VecAluOpRRImm5-variant.VsadduVI = (refl, (refl, arithmetic_of _ refl))
rr_imm5_place VecAluOpRRImm5-variant.VsaddVI = (refl, (refl, arithmetic_of _ refl))
rr_imm5_place VecAluOpRRImm5-variant.VrgatherVI = (refl, (refl, arithmetic_of _ refl))
rr_imm5_place VecAluOpRRImm5-variant.VmvrV = (refl, (refl, arithmetic_of _ refl))
rr_imm5_place VecAluOpRRImm5-variant.VnclipWI = (refl, (refl, arithmetic_of _ refl))
rr_imm5_place VecAluOpRRImm5-variant.VnclipuWI = (refl, (refl, arithmetic_of _ refl))
rr_imm5_place VecAluOpRRImm5-variant.VmseqVI = (refl, (refl, arithmetic_of _ refl))
rr_imm5_place VecAluOpRRImm5-variant.VmsneVI = (refl, (refl, arithmetic_of _ refl))
rr_imm5_place VecAluOpRRImm5-variant.VmsleuVI = (refl, (refl, arithmetic_of _ refl))
rr_imm5_place VecAluOpRRImm5-variant.VmsleVI = (refl, (refl, arithmetic_of _ refl))
rr_imm5_place VecAluOpRRImm5-variant.VmsgtuVI = (refl, (refl, arithmetic_of _ refl))
rr_imm5_place VecAluOpRRImm5-variant.VmsgtVI = (refl, (refl, arithmetic_of _ refl))
rr_imm5_place VecAluOpRRImm5-variant.VrorVI = (refl, (refl, arithmetic_of _ refl))

pub rrr_imm5_place : (op : VecAluOpRRRImm5) → Stands false (VecAluOpRRRImm5-name op) (189 + tag_of VecAluOpRRRImm5-type op)
unfolding operations
rrr_imm5_place VecAluOpRRRImm5-variant.VslideupVI = (refl, (refl, arithmetic_of _ refl))

pub load_place : (w : VecElementWidth) → Some (190 + tag_of width-type w) ≡ named operations (VecMemOp-name (Load w))
unfolding operations
load_place E8 = refl
load_place E16 = refl
load_place E32 = refl
load_place E64 = refl

pub store_place : (w : VecElementWidth) → Some (194 + tag_of width-type w) ≡ named operations (VecMemOp-name (Store w))
unfolding operations
store_place E8 = refl
store_place E16 = refl
store_place E32 = refl
store_place E64 = refl
