-- Whether what a line tells is the answer here: the word of an encoder, to the operands before it, or what holds of a constant or an operation.
use Rattle.std.specs.Prelude.{ℕ, ◌-◌, Bool, false, ◌||◌, List, [], ◌∷◌, length, Ok, Err, codes, Option}
use Rattle.std.specs.Option.{option_map, unwrap_or}
use Rattle.std.specs.Str.{bytes_eq}
use Rattle.text.specs.Fields.{fields}
use Rattle.text.specs.Found.{found}
use Rattle.text.specs.Words.{hex_of}
use Rattle.replay.specs.declared.encoder.Encoder.{Encoder}
use Rattle.replay.specs.declared.encoder.Encoder.TheVariants.{RType, IType, SType, Valu, ValuRrrr, ValuRrImm, ValuRrrImm, VmemLoad, VmemStore, CrType, Cr2Type, CaType, CjType, CiType, CiSpLoad, CAddi16sp, CiwType, CbType, CssType, CsType, ClType}
use Rattle.replay.specs.Operands.{text_at}
use Rattle.replay.specs.Names.{named_at}
use Rattle.replay.specs.Rules.{told_of}
use Rattle.replay.specs.Constants.{constructed, paired}
use Rattle.replay.specs.Words.{Answer, r_type, i_type, s_type, valu, valu_rrrr, valu_rr_imm, valu_rrr_imm, vmem, cr_type, cr2_type, ca_type, cj_type, ci_type, ci_sp_load, c_addi16sp, ciw_type, cb_type, css_type, cs_type, cl_type}

-- the encoders by name
abbrev pub encoders : List (List ℕ × Encoder)
encoders =
    (codes "encode_r_type", RType) ∷
    (codes "encode_i_type", IType) ∷
    (codes "encode_s_type", SType) ∷
    (codes "encode_valu", Valu) ∷
    (codes "encode_valu_rrrr", ValuRrrr) ∷
    (codes "encode_valu_rr_imm", ValuRrImm) ∷
    (codes "encode_valu_rrr_imm", ValuRrrImm) ∷
    (codes "encode_vmem_load", VmemLoad) ∷
    (codes "encode_vmem_store", VmemStore) ∷
    (codes "encode_cr_type", CrType) ∷
    (codes "encode_cr2_type", Cr2Type) ∷
    (codes "encode_ca_type", CaType) ∷
    (codes "encode_cj_type", CjType) ∷
    (codes "encode_ci_type", CiType) ∷
    (codes "encode_ci_sp_load", CiSpLoad) ∷
    (codes "encode_c_addi16sp", CAddi16sp) ∷
    (codes "encode_ciw_type", CiwType) ∷
    (codes "encode_cb_type", CbType) ∷
    (codes "encode_css_type", CssType) ∷
    (codes "encode_cs_type", CsType) ∷
    (codes "encode_cl_type", ClType) ∷ []

-- what an encoder answers to the operands of a line
abbrev pub answer_by : Encoder → List ℕ → Option Answer
answer_by RType t = r_type t
answer_by IType t = i_type t
answer_by SType t = s_type t
answer_by Valu t = valu t
answer_by ValuRrrr t = valu_rrrr t
answer_by ValuRrImm t = valu_rr_imm t
answer_by ValuRrrImm t = valu_rrr_imm t
answer_by VmemLoad t = vmem t
answer_by VmemStore t = vmem t
answer_by CrType t = cr_type t
answer_by Cr2Type t = cr2_type t
answer_by CaType t = ca_type t
answer_by CjType t = cj_type t
answer_by CiType t = ci_type t
answer_by CiSpLoad t = ci_sp_load t
answer_by CAddi16sp t = c_addi16sp t
answer_by CiwType t = ciw_type t
answer_by CbType t = cb_type t
answer_by CssType t = css_type t
answer_by CsType t = cs_type t
answer_by ClType t = cl_type t

-- the answer of the encoder that the first field names
abbrev pub answer_of : List ℕ → Option Answer
answer_of t = found (named_at t 0 encoders) (λ e. answer_by e t)

-- a word as hexadecimal digits, and a refusal as the Rust's
abbrev pub written : Answer → List ℕ
written (Ok w) = hex_of w
written (Err e) = codes "panic"

-- the last field is the answer of the encoder
abbrev pub encoded : List ℕ → Option Bool
encoded t = found (answer_of t) (λ a. option_map (λ w. bytes_eq w (written a)) (text_at t (length (fields t) - 1)))

-- what the line tells is the answer, of an encoder, a constructor, generate_imm or an operation
abbrev pub agrees_of : List ℕ → Bool
agrees_of t = unwrap_or (encoded t) false || (unwrap_or (constructed t) false || (unwrap_or (paired t) false || unwrap_or (told_of t) false))
