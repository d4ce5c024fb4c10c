-- What a line tells of an operation of vector arithmetic: its codes, its category, the overlaps that it forbids, and what stands in the
-- place of vs1: the class of a register, or whether a constant is unsigned.
use Rattle.std.specs.Prelude.{ℕ, Bool, cond, ◌&&◌, ◌==◌, List, [], ◌∷◌, Some, codes, Option}
use Rattle.std.specs.Str.{bytes_eq}
use Rattle.text.specs.Found.{found}
use Rattle.operands.specs.declared.regs.Class.{Class}
use Rattle.operands.specs.declared.regs.Class.TheVariants.{Integer, Float, Vector}
use Rattle.operations.specs.declared.row.Forbids.{Forbids}
use Rattle.operations.specs.declared.row.Form.{Form}
use Rattle.vector_operations.specs.declared.vector.VecOpCategory.{VecOpCategory}
use Rattle.vector_operations.specs.declared.vector.VecOpCategory.TheVariants.{OPIVV, OPFVV, OPMVV, OPIVI, OPIVX, OPFVF, OPMVX, OPCFG}
use Rattle.vector_operations.specs.Names.{VecAluOpRRR-name, VecAluOpRRRR-name, VecAluOpRRImm5-name, VecAluOpRRRImm5-name}
use Rattle.vector_operations.specs.Codes.{form_named, class_of, is_unsigned, category_code}
use Rattle.replay.specs.declared.rules.OpList.{OpList}
use Rattle.replay.specs.declared.rules.OpList.TheVariants.{Rrr, Rrrr, RrImm5, RrrImm5}
use Rattle.replay.specs.Operands.{code_at, text_at}
use Rattle.replay.specs.Names.{named_at}
use Rattle.replay.specs.VectorNames.{rrr_ops, rrrr_ops, rr_imm5_ops, rrr_imm5_ops}

abbrev pub lists : List (List ℕ × OpList)
lists = (codes "VecAluOpRRR", Rrr) ∷ (codes "VecAluOpRRRR", Rrrr) ∷ (codes "VecAluOpRRImm5", RrImm5) ∷ (codes "VecAluOpRRRImm5", RrrImm5) ∷ []

abbrev pub categories : List (List ℕ × VecOpCategory)
categories = (codes "OPIVV", OPIVV) ∷ (codes "OPFVV", OPFVV) ∷ (codes "OPMVV", OPMVV) ∷ (codes "OPIVI", OPIVI) ∷ (codes "OPIVX", OPIVX) ∷ (codes "OPFVF", OPFVF) ∷ (codes "OPMVX", OPMVX) ∷ (codes "OPCFG", OPCFG) ∷ []

abbrev pub truth : Bool → List ℕ
truth b = cond b (codes "true") (codes "false")

abbrev pub class_text : Class → List ℕ
class_text Integer = codes "Int"
class_text Float = codes "Float"
class_text Vector = codes "Vector"

-- the codes in fields 2 to 5
abbrev pub codes_told : List ℕ → Form → Option Bool
codes_told t f =
    found (code_at t 2) (λ opcode.
    found (code_at t 3) (λ funct3.
    found (code_at t 4) (λ funct6.
    found (named_at t 5 categories) (λ category.
    Some (opcode == f.opcode && (funct3 == f.funct3 && (funct6 == f.funct && category_code category == f.funct3)))))))

-- the overlaps in fields 6 and 7
abbrev pub overlaps_told : List ℕ → Forbids → Option Bool
overlaps_told t f =
    found (text_at t 6) (λ sources.
    found (text_at t 7) (λ mask.
    Some (bytes_eq sources (truth f.sources) && bytes_eq mask (truth f.mask))))

abbrev pub class_told : List ℕ → Option Class → Option Bool
class_told t c = found c (λ c. found (text_at t 8) (λ w. Some (bytes_eq w (class_text c))))

abbrev pub sign_told : List ℕ → Bool → Option Bool
sign_told t b = found (text_at t 8) (λ w. Some (bytes_eq w (truth b)))

abbrev pub all_told : Option Bool → Option Bool → Option Bool → Option Bool
all_told x y z = found x (λ a. found y (λ b. found z (λ c. Some (a && (b && c)))))

abbrev pub on_registers : List ℕ → Form → Option Bool
on_registers t f = all_told (codes_told t f) (overlaps_told t f.forbids) (class_told t (class_of f.a))

abbrev pub with_constant : List ℕ → Form → Option Bool
with_constant t f = all_told (codes_told t f) (overlaps_told t f.forbids) (sign_told t (is_unsigned f.n))

abbrev pub told_by : OpList → List ℕ → Option Bool
told_by Rrr t = found (named_at t 1 rrr_ops) (λ op. on_registers t (form_named (VecAluOpRRR-name op)))
told_by Rrrr t = found (named_at t 1 rrrr_ops) (λ op. on_registers t (form_named (VecAluOpRRRR-name op)))
told_by RrImm5 t = found (named_at t 1 rr_imm5_ops) (λ op. with_constant t (form_named (VecAluOpRRImm5-name op)))
told_by RrrImm5 t = found (named_at t 1 rrr_imm5_ops) (λ op. with_constant t (form_named (VecAluOpRRRImm5-name op)))

-- whether a line tells what the manuals say of the operation
abbrev pub told_of : List ℕ → Option Bool
told_of t = found (named_at t 0 lists) (λ l. told_by l t)
