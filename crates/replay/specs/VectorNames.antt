-- The operations of vector arithmetic by name, each with the name that it has in the table.
use Rattle.std.specs.Prelude.{ℕ, List, [], ◌∷◌, map}
use Rattle.vector_operations.specs.declared.rrr.VecAluOpRRR.{VecAluOpRRR}
use Rattle.vector_operations.specs.declared.rrr.VecAluOpRRR.TheVariants as VecAluOpRRR-variant
use Rattle.vector_operations.specs.declared.rrrr.VecAluOpRRRR.{VecAluOpRRRR}
use Rattle.vector_operations.specs.declared.rrrr.VecAluOpRRRR.TheVariants as VecAluOpRRRR-variant
use Rattle.vector_operations.specs.declared.rr_imm5.VecAluOpRRImm5.{VecAluOpRRImm5}
use Rattle.vector_operations.specs.declared.rr_imm5.VecAluOpRRImm5.TheVariants as VecAluOpRRImm5-variant
use Rattle.vector_operations.specs.declared.rrr_imm5.VecAluOpRRRImm5.{VecAluOpRRRImm5}
use Rattle.vector_operations.specs.declared.rrr_imm5.VecAluOpRRRImm5.TheVariants as VecAluOpRRRImm5-variant
use Rattle.vector_operations.specs.Names.{VecAluOpRRR-name, VecAluOpRRRR-name, VecAluOpRRImm5-name, VecAluOpRRRImm5-name}

abbrev pub rrr_ops : List (List ℕ × VecAluOpRRR)
rrr_ops =
    map (λ op. (VecAluOpRRR-name op, op)) (
    VecAluOpRRR-variant.VaddVV ∷ VecAluOpRRR-variant.VaddVX ∷ VecAluOpRRR-variant.VfaddVV ∷ VecAluOpRRR-variant.VfaddVF ∷ VecAluOpRRR-variant.VsubVV ∷ VecAluOpRRR-variant.VsubVX ∷ VecAluOpRRR-variant.VfsubVV ∷ VecAluOpRRR-variant.VfsubVF ∷
    VecAluOpRRR-variant.VrsubVX ∷ VecAluOpRRR-variant.VmulVV ∷ VecAluOpRRR-variant.VmulVX ∷ VecAluOpRRR-variant.VmulhVV ∷ VecAluOpRRR-variant.VmulhVX ∷ VecAluOpRRR-variant.VmulhuVV ∷ VecAluOpRRR-variant.VmulhuVX ∷ VecAluOpRRR-variant.VfmulVV ∷
    VecAluOpRRR-variant.VfmulVF ∷ VecAluOpRRR-variant.VsmulVV ∷ VecAluOpRRR-variant.VsmulVX ∷ VecAluOpRRR-variant.VsllVV ∷ VecAluOpRRR-variant.VsllVX ∷ VecAluOpRRR-variant.VsrlVV ∷ VecAluOpRRR-variant.VsrlVX ∷ VecAluOpRRR-variant.VsraVV ∷
    VecAluOpRRR-variant.VsraVX ∷ VecAluOpRRR-variant.VandVV ∷ VecAluOpRRR-variant.VandVX ∷ VecAluOpRRR-variant.VorVV ∷ VecAluOpRRR-variant.VorVX ∷ VecAluOpRRR-variant.VxorVV ∷ VecAluOpRRR-variant.VxorVX ∷ VecAluOpRRR-variant.VminuVV ∷
    VecAluOpRRR-variant.VminuVX ∷ VecAluOpRRR-variant.VredminuVS ∷ VecAluOpRRR-variant.VminVV ∷ VecAluOpRRR-variant.VminVX ∷ VecAluOpRRR-variant.VmaxuVV ∷ VecAluOpRRR-variant.VmaxuVX ∷ VecAluOpRRR-variant.VredmaxuVS ∷ VecAluOpRRR-variant.VmaxVV ∷
    VecAluOpRRR-variant.VmaxVX ∷ VecAluOpRRR-variant.VslidedownVX ∷ VecAluOpRRR-variant.VfrsubVF ∷ VecAluOpRRR-variant.VmergeVVM ∷ VecAluOpRRR-variant.VmergeVXM ∷ VecAluOpRRR-variant.VfmergeVFM ∷ VecAluOpRRR-variant.VcompressVM ∷ VecAluOpRRR-variant.VfdivVV ∷
    VecAluOpRRR-variant.VfdivVF ∷ VecAluOpRRR-variant.VsadduVV ∷ VecAluOpRRR-variant.VsadduVX ∷ VecAluOpRRR-variant.VfrdivVF ∷ VecAluOpRRR-variant.VsaddVV ∷ VecAluOpRRR-variant.VsaddVX ∷ VecAluOpRRR-variant.VfminVV ∷ VecAluOpRRR-variant.VfmaxVV ∷
    VecAluOpRRR-variant.VssubuVV ∷ VecAluOpRRR-variant.VssubuVX ∷ VecAluOpRRR-variant.VssubVV ∷ VecAluOpRRR-variant.VssubVX ∷ VecAluOpRRR-variant.VfsgnjVV ∷ VecAluOpRRR-variant.VfsgnjVF ∷ VecAluOpRRR-variant.VfsgnjnVV ∷ VecAluOpRRR-variant.VfsgnjxVV ∷
    VecAluOpRRR-variant.VrgatherVV ∷ VecAluOpRRR-variant.VrgatherVX ∷ VecAluOpRRR-variant.VwadduVV ∷ VecAluOpRRR-variant.VwadduVX ∷ VecAluOpRRR-variant.VwaddVV ∷ VecAluOpRRR-variant.VwaddVX ∷ VecAluOpRRR-variant.VwsubuVV ∷ VecAluOpRRR-variant.VwsubuVX ∷
    VecAluOpRRR-variant.VwsubVV ∷ VecAluOpRRR-variant.VwsubVX ∷ VecAluOpRRR-variant.VwadduWV ∷ VecAluOpRRR-variant.VwadduWX ∷ VecAluOpRRR-variant.VwaddWV ∷ VecAluOpRRR-variant.VwaddWX ∷ VecAluOpRRR-variant.VwsubuWV ∷ VecAluOpRRR-variant.VwsubuWX ∷
    VecAluOpRRR-variant.VwsubWV ∷ VecAluOpRRR-variant.VwsubWX ∷ VecAluOpRRR-variant.VmseqVV ∷ VecAluOpRRR-variant.VmseqVX ∷ VecAluOpRRR-variant.VmfeqVV ∷ VecAluOpRRR-variant.VmfeqVF ∷ VecAluOpRRR-variant.VmsneVV ∷ VecAluOpRRR-variant.VmsneVX ∷
    VecAluOpRRR-variant.VmfleVV ∷ VecAluOpRRR-variant.VmfleVF ∷ VecAluOpRRR-variant.VmandMM ∷ VecAluOpRRR-variant.VmsltuVV ∷ VecAluOpRRR-variant.VmsltuVX ∷ VecAluOpRRR-variant.VmorMM ∷ VecAluOpRRR-variant.VmsltVV ∷ VecAluOpRRR-variant.VmsltVX ∷
    VecAluOpRRR-variant.VmfltVV ∷ VecAluOpRRR-variant.VmfltVF ∷ VecAluOpRRR-variant.VmsleuVV ∷ VecAluOpRRR-variant.VmsleuVX ∷ VecAluOpRRR-variant.VmfneVV ∷ VecAluOpRRR-variant.VmfneVF ∷ VecAluOpRRR-variant.VmsleVV ∷ VecAluOpRRR-variant.VmsleVX ∷
    VecAluOpRRR-variant.VmfgtVF ∷ VecAluOpRRR-variant.VmnandMM ∷ VecAluOpRRR-variant.VmsgtuVX ∷ VecAluOpRRR-variant.VmnorMM ∷ VecAluOpRRR-variant.VmsgtVX ∷ VecAluOpRRR-variant.VmfgeVF ∷ VecAluOpRRR-variant.VandnVV ∷ VecAluOpRRR-variant.VandnVX ∷
    VecAluOpRRR-variant.VrorVV ∷ VecAluOpRRR-variant.VrorVX ∷ VecAluOpRRR-variant.VrolVV ∷ VecAluOpRRR-variant.VrolVX ∷
    [])

abbrev pub rrrr_ops : List (List ℕ × VecAluOpRRRR)
rrrr_ops =
    map (λ op. (VecAluOpRRRR-name op, op)) (
    VecAluOpRRRR-variant.VmaccVV ∷ VecAluOpRRRR-variant.VmaccVX ∷ VecAluOpRRRR-variant.VnmsacVV ∷ VecAluOpRRRR-variant.VnmsacVX ∷ VecAluOpRRRR-variant.VfmaccVV ∷ VecAluOpRRRR-variant.VfmaccVF ∷ VecAluOpRRRR-variant.VfnmaccVV ∷ VecAluOpRRRR-variant.VfnmaccVF ∷
    VecAluOpRRRR-variant.VfmsacVV ∷ VecAluOpRRRR-variant.VfmsacVF ∷ VecAluOpRRRR-variant.VfnmsacVV ∷ VecAluOpRRRR-variant.VfnmsacVF ∷ VecAluOpRRRR-variant.Vslide1upVX ∷
    [])

abbrev pub rr_imm5_ops : List (List ℕ × VecAluOpRRImm5)
rr_imm5_ops =
    map (λ op. (VecAluOpRRImm5-name op, op)) (
    VecAluOpRRImm5-variant.VaddVI ∷ VecAluOpRRImm5-variant.VrsubVI ∷ VecAluOpRRImm5-variant.VsllVI ∷ VecAluOpRRImm5-variant.VsrlVI ∷ VecAluOpRRImm5-variant.VsraVI ∷ VecAluOpRRImm5-variant.VandVI ∷ VecAluOpRRImm5-variant.VorVI ∷ VecAluOpRRImm5-variant.VxorVI ∷
    VecAluOpRRImm5-variant.VslidedownVI ∷ VecAluOpRRImm5-variant.VssrlVI ∷ VecAluOpRRImm5-variant.VmergeVIM ∷ VecAluOpRRImm5-variant.VsadduVI ∷ VecAluOpRRImm5-variant.VsaddVI ∷ VecAluOpRRImm5-variant.VrgatherVI ∷ VecAluOpRRImm5-variant.VmvrV ∷ VecAluOpRRImm5-variant.VnclipWI ∷
    VecAluOpRRImm5-variant.VnclipuWI ∷ VecAluOpRRImm5-variant.VmseqVI ∷ VecAluOpRRImm5-variant.VmsneVI ∷ VecAluOpRRImm5-variant.VmsleuVI ∷ VecAluOpRRImm5-variant.VmsleVI ∷ VecAluOpRRImm5-variant.VmsgtuVI ∷ VecAluOpRRImm5-variant.VmsgtVI ∷ VecAluOpRRImm5-variant.VrorVI ∷
    [])

abbrev pub rrr_imm5_ops : List (List ℕ × VecAluOpRRRImm5)
rrr_imm5_ops =
    map (λ op. (VecAluOpRRRImm5-name op, op)) (
    VecAluOpRRRImm5-variant.VslideupVI ∷
    [])
