-- What the encoders answer to the operands of a line, each in the order of its arguments.
use Rattle.std.specs.Prelude.{ℕ, List, [], ◌∷◌, Some, Ok, Err, Option, Result}
use Rattle.text.specs.Found.{found}
use Rattle.bits.specs.Layout.{word}
use Rattle.bits.specs.Twos.{twos}
use Rattle.operands.specs.Masks.{mask_bit}
use Rattle.formats.specs.declared.faults.WideCode.TheVariants.{Opcode, Funct3, Funct7, Lumop, Mop, Nf}
use Rattle.formats.specs.declared.kind.Kind.TheVariants as kinds
use Rattle.formats.specs.Layouts.{layout}
use Rattle.formats.specs.Lawful.{check, first_wide}
use Rattle.args.specs.Codes.{space, width_code, CrOp-op, CrOp-funct4, CaOp-op, CaOp-funct2, CaOp-funct6, CjOp-op, CjOp-funct3, CiOp-op, CiOp-funct3, CiwOp-op, CiwOp-funct3, CbOp-op, CbOp-funct3, CbOp-funct2, CssOp-op, CssOp-funct3, CsOp-op, CsOp-funct3, ClOp-op, ClOp-funct3}
use Rattle.encoders.specs.declared.faults.EncodeFault.{EncodeFault}
use Rattle.vector_operations.specs.Names.{VecAluOpRRR-name, VecAluOpRRRR-name, VecAluOpRRImm5-name, VecAluOpRRRImm5-name}
use Rattle.vector_operations.specs.Codes.{form_named}
use Rattle.encoders.specs.Encodings.{answered, fields, arithmetic, unit_stride, jumped, sp_load, loaded, sp_store, store_kind, load_kind}
use Rattle.text.specs.declared.words.Word.{Word}
use Rattle.text.specs.declared.words.Word.TheVariants.{Wide, Short}
use Rattle.replay.specs.Operands.{natural_at, integer_at, code_at, reg_at, short_at, masking_at}
use Rattle.replay.specs.VectorNames.{rrr_ops, rrrr_ops, rr_imm5_ops, rrr_imm5_ops}
use Rattle.replay.specs.Names.{named_at, cr_ops, ca_ops, cj_ops, ci_ops, ciw_ops, cb_ops, css_ops, cs_ops, cl_ops, widths}

-- a word, or why there is none
abbrev pub Answer : Type 0
Answer = Result Word EncodeFault

-- what an encoder of words of one size answers, among the words of both
abbrev pub among : (ℕ → Word) → Result ℕ EncodeFault → Answer
among size (Ok w) = Ok (size w)
among size (Err e) = Err e

-- ---- 32 bits

abbrev pub r_type : List ℕ → Option Answer
r_type t =
    found (code_at t 1) (λ opcode.
    found (reg_at t 2) (λ rd.
    found (code_at t 3) (λ f3.
    found (reg_at t 4) (λ rs1.
    found (reg_at t 5) (λ rs2.
    found (code_at t 6) (λ f7.
    Some (among Wide (answered (first_wide (check opcode 7 Opcode ∷ check f3 3 Funct3 ∷ check f7 7 Funct7 ∷ [])) (word (layout kinds.R) (fields rd rs1 rs2 0 0 opcode f3 f7))))))))))

abbrev pub i_type : List ℕ → Option Answer
i_type t =
    found (code_at t 1) (λ opcode.
    found (reg_at t 2) (λ rd.
    found (code_at t 3) (λ f3.
    found (reg_at t 4) (λ rs1.
    found (integer_at t 5 2048) (λ z.
    Some (among Wide (answered (first_wide (check opcode 7 Opcode ∷ check f3 3 Funct3 ∷ [])) (word (layout kinds.I) (fields rd rs1 0 (twos 12 z) 0 opcode f3 0)))))))))

abbrev pub s_type : List ℕ → Option Answer
s_type t =
    found (code_at t 1) (λ opcode.
    found (code_at t 2) (λ f3.
    found (reg_at t 3) (λ base.
    found (reg_at t 4) (λ src.
    found (integer_at t 5 2048) (λ z.
    Some (among Wide (answered (first_wide (check opcode 7 Opcode ∷ check f3 3 Funct3 ∷ [])) (word (layout kinds.S) (fields 0 base src (twos 12 z) 0 opcode f3 0)))))))))

-- ---- vectors

abbrev pub valu : List ℕ → Option Answer
valu t =
    found (named_at t 1 rrr_ops) (λ op.
    found (reg_at t 2) (λ vd.
    found (reg_at t 3) (λ vs1.
    found (reg_at t 4) (λ vs2.
    found (masking_at t 5) (λ m.
    Some (Ok (Wide (word (layout kinds.V) (arithmetic (form_named (VecAluOpRRR-name op)) vd vs1 vs2 0 m)))))))))

-- vs2 comes before vs1
abbrev pub valu_rrrr : List ℕ → Option Answer
valu_rrrr t =
    found (named_at t 1 rrrr_ops) (λ op.
    found (reg_at t 2) (λ vd.
    found (reg_at t 3) (λ vs2.
    found (reg_at t 4) (λ vs1.
    found (masking_at t 5) (λ m.
    Some (Ok (Wide (word (layout kinds.V) (arithmetic (form_named (VecAluOpRRRR-name op)) vd vs1 vs2 0 m)))))))))

abbrev pub valu_rr_imm : List ℕ → Option Answer
valu_rr_imm t =
    found (named_at t 1 rr_imm5_ops) (λ op.
    found (reg_at t 2) (λ vd.
    found (integer_at t 3 16) (λ z.
    found (reg_at t 4) (λ vs2.
    found (masking_at t 5) (λ m.
    Some (Ok (Wide (word (layout kinds.VImm) (arithmetic (form_named (VecAluOpRRImm5-name op)) vd 0 vs2 (twos 5 z) m)))))))))

abbrev pub valu_rrr_imm : List ℕ → Option Answer
valu_rrr_imm t =
    found (named_at t 1 rrr_imm5_ops) (λ op.
    found (reg_at t 2) (λ vd.
    found (integer_at t 3 16) (λ z.
    found (reg_at t 4) (λ vs2.
    found (masking_at t 5) (λ m.
    Some (Ok (Wide (word (layout kinds.VImm) (arithmetic (form_named (VecAluOpRRRImm5-name op)) vd 0 vs2 (twos 5 z) m)))))))))

abbrev pub vmem : List ℕ → Option Answer
vmem t =
    found (code_at t 1) (λ opcode.
    found (reg_at t 2) (λ vd.
    found (named_at t 3 widths) (λ w.
    found (reg_at t 4) (λ rs1.
    found (code_at t 5) (λ umop.
    found (masking_at t 6) (λ m.
    found (code_at t 7) (λ mop.
    found (code_at t 8) (λ nf.
    Some (among Wide (answered (first_wide (check opcode 7 Opcode ∷ check umop 5 Lumop ∷ check mop 2 Mop ∷ check nf 3 Nf ∷ [])) (word unit_stride (fields vd rs1 umop mop (mask_bit m) opcode (width_code w) nf))))))))))))

-- ---- 16 bits

abbrev pub cr_type : List ℕ → Option Answer
cr_type t =
    found (named_at t 1 cr_ops) (λ op.
    found (reg_at t 2) (λ rd.
    found (reg_at t 3) (λ rs2.
    Some (Ok (Short (word (layout kinds.Cr) (fields rd 0 rs2 0 0 (space (CrOp-op op)) 0 (CrOp-funct4 op))))))))

abbrev pub cr2_type : List ℕ → Option Answer
cr2_type t =
    found (named_at t 1 cr_ops) (λ op.
    found (reg_at t 2) (λ rs1.
    Some (Ok (Short (word (layout kinds.Cr2) (fields 0 rs1 0 0 0 (space (CrOp-op op)) 0 (CrOp-funct4 op)))))))

abbrev pub ca_type : List ℕ → Option Answer
ca_type t =
    found (named_at t 1 ca_ops) (λ op.
    found (short_at t 2) (λ rd.
    found (short_at t 3) (λ rs2.
    Some (Ok (Short (word (layout kinds.Ca) (fields rd 0 rs2 0 0 (space (CaOp-op op)) (CaOp-funct2 op) (CaOp-funct6 op))))))))

abbrev pub cj_type : List ℕ → Option Answer
cj_type t =
    found (named_at t 1 cj_ops) (λ op.
    found (integer_at t 2 2048) (λ z.
    Some (among Short (jumped (space (CjOp-op op)) (CjOp-funct3 op) z))))

abbrev pub ci_type : List ℕ → Option Answer
ci_type t =
    found (named_at t 1 ci_ops) (λ op.
    found (reg_at t 2) (λ rd.
    found (integer_at t 3 32) (λ z.
    Some (Ok (Short (word (layout kinds.Ci) (fields rd 0 0 (twos 6 z) 0 (space (CiOp-op op)) (CiOp-funct3 op) 0)))))))

abbrev pub ci_sp_load : List ℕ → Option Answer
ci_sp_load t =
    found (named_at t 1 ci_ops) (λ op.
    found (reg_at t 2) (λ rd.
    found (natural_at t 3 64) (λ n.
    Some (among Short (loaded (sp_load op) (fields rd 0 0 n 0 (space (CiOp-op op)) (CiOp-funct3 op) 0))))))

abbrev pub c_addi16sp : List ℕ → Option Answer
c_addi16sp t =
    found (integer_at t 1 32) (λ z.
    Some (Ok (Short (word (layout kinds.CiAddi16sp) (fields 0 0 0 (twos 6 z) 0 1 3 0)))))

abbrev pub ciw_type : List ℕ → Option Answer
ciw_type t =
    found (named_at t 1 ciw_ops) (λ op.
    found (short_at t 2) (λ rd.
    found (natural_at t 3 256) (λ n.
    Some (Ok (Short (word (layout kinds.Ciw) (fields rd 0 0 n 0 (space (CiwOp-op op)) (CiwOp-funct3 op) 0)))))))

abbrev pub cb_type : List ℕ → Option Answer
cb_type t =
    found (named_at t 1 cb_ops) (λ op.
    found (short_at t 2) (λ rd.
    found (integer_at t 3 32) (λ z.
    Some (Ok (Short (word (layout kinds.Cb) (fields rd 0 0 (twos 6 z) 0 (space (CbOp-op op)) (CbOp-funct3 op) (CbOp-funct2 op))))))))

abbrev pub css_type : List ℕ → Option Answer
css_type t =
    found (named_at t 1 css_ops) (λ op.
    found (reg_at t 2) (λ src.
    found (natural_at t 3 64) (λ n.
    Some (Ok (Short (word (layout (sp_store op)) (fields 0 0 src n 0 (space (CssOp-op op)) (CssOp-funct3 op) 0)))))))

abbrev pub cs_type : List ℕ → Option Answer
cs_type t =
    found (named_at t 1 cs_ops) (λ op.
    found (short_at t 2) (λ src.
    found (short_at t 3) (λ base.
    found (natural_at t 4 32) (λ n.
    Some (Ok (Short (word (layout (store_kind op)) (fields 0 base src n 0 (space (CsOp-op op)) (CsOp-funct3 op) 0))))))))

abbrev pub cl_type : List ℕ → Option Answer
cl_type t =
    found (named_at t 1 cl_ops) (λ op.
    found (short_at t 2) (λ dest.
    found (short_at t 3) (λ base.
    found (natural_at t 4 32) (λ n.
    Some (Ok (Short (word (layout (load_kind op)) (fields dest base 0 n 0 (space (ClOp-op op)) (ClOp-funct3 op) 0))))))))
