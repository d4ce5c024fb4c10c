-- The laws of each format.
use Rattle.std.proofs.Common.{◌≡◌, ℕ, None, refl, ap, lit<}
use Rattle.bits.specs.declared.part.Values.{Values}
use Rattle.bits.specs.declared.part.Field.TheVariants.{D, A, B, N, M, Opcode, Funct3, Funct}
use Rattle.bits.specs.Layout.{Fit}
use Rattle.operands.proofs.Sames.{signed_lt, signed_of, signed_of_bits, same_signed, same_num}
use Rattle.formats.specs.declared.kind.Kind.TheVariants as kind
use Rattle.formats.specs.Layouts.{layout}
use Rattle.formats.proofs.Codes.{narrow, none_wide, none_there}
use Rattle.formats.proofs.Sound.{fit_of}
use Rattle.formats.proofs.Made.{same_values}
use Rattle.wide.specs.declared.operands_of.IOperands.{IOperands}
use Rattle.wide.specs.declared.operands_of.ROperands.{ROperands}
use Rattle.wide.specs.declared.operands_of.SOperands.{SOperands}
use Rattle.wide.specs.declared.operands_of.UOperands.{UOperands}
use Rattle.wide.specs.Operands.{I-values, I-fault, I-codes, R-values, R-fault, R-codes, S-values, S-fault, S-codes, U-values, U-fault, U-codes}

-- ---- I

pub I-fits : (o : IOperands) → I-fault o ≡ None → Fit (layout kind.I) (I-values o)
I-fits o e =
    let c = narrow (I-codes o) e in
    fit_of (layout kind.I) (I-values o) o.rd.ok o.rs1.ok (lit< tt) (signed_lt o.imm) (lit< tt) c.0 c.1.0 (lit< tt)

pub I-known : (o p : IOperands) → I-values o ≡ I-values p → o ≡ p
I-known o p e =
    let at : (f : Values → ℕ) → f (I-values o) ≡ f (I-values p) = λ f. ap f e in
    λ i. record {
      opcode = at (λ v. v.opcode) i;
      rd = same_num o.rd p.rd (at (λ v. v.d)) i;
      funct3 = at (λ v. v.funct3) i;
      rs1 = same_num o.rs1 p.rs1 (at (λ v. v.a)) i;
      imm = same_signed o.imm p.imm (lit< tt) (at (λ v. v.n)) i;
    }

pub I-held : (v : Values) → Fit (layout kind.I) v → (o : IOperands) × ((I-fault o ≡ None) × (I-values o ≡ v))
I-held v h =
    let o : IOperands = record { opcode = v.opcode; rd = record { value = v.d; ok = h D }; funct3 = v.funct3; rs1 = record { value = v.a; ok = h A }; imm = signed_of 12 v.n (h N) } in
    let lawful = none_wide (I-codes o) (h Opcode, (h Funct3, tt)) in
    (o, (lawful, same_values refl refl (none_there v.b (h B)) (signed_of_bits 12 v.n (h N)) (none_there v.m (h M)) refl refl (none_there v.funct (h Funct))))

-- ---- R

pub R-fits : (o : ROperands) → R-fault o ≡ None → Fit (layout kind.R) (R-values o)
R-fits o e =
    let c = narrow (R-codes o) e in
    fit_of (layout kind.R) (R-values o) o.rd.ok o.rs1.ok o.rs2.ok (lit< tt) (lit< tt) c.0 c.1.0 c.1.1.0

pub R-known : (o p : ROperands) → R-values o ≡ R-values p → o ≡ p
R-known o p e =
    let at : (f : Values → ℕ) → f (R-values o) ≡ f (R-values p) = λ f. ap f e in
    λ i. record {
      opcode = at (λ v. v.opcode) i;
      rd = same_num o.rd p.rd (at (λ v. v.d)) i;
      funct3 = at (λ v. v.funct3) i;
      rs1 = same_num o.rs1 p.rs1 (at (λ v. v.a)) i;
      rs2 = same_num o.rs2 p.rs2 (at (λ v. v.b)) i;
      funct7 = at (λ v. v.funct) i;
    }

pub R-held : (v : Values) → Fit (layout kind.R) v → (o : ROperands) × ((R-fault o ≡ None) × (R-values o ≡ v))
R-held v h =
    let o : ROperands = record { opcode = v.opcode; rd = record { value = v.d; ok = h D }; funct3 = v.funct3; rs1 = record { value = v.a; ok = h A }; rs2 = record { value = v.b; ok = h B }; funct7 = v.funct } in
    let lawful = none_wide (R-codes o) (h Opcode, (h Funct3, (h Funct, tt))) in
    (o, (lawful, same_values refl refl refl (none_there v.n (h N)) (none_there v.m (h M)) refl refl refl))

-- ---- S

pub S-fits : (o : SOperands) → S-fault o ≡ None → Fit (layout kind.S) (S-values o)
S-fits o e =
    let c = narrow (S-codes o) e in
    fit_of (layout kind.S) (S-values o) (lit< tt) o.rs1.ok o.rs2.ok (signed_lt o.imm) (lit< tt) c.0 c.1.0 (lit< tt)

pub S-known : (o p : SOperands) → S-values o ≡ S-values p → o ≡ p
S-known o p e =
    let at : (f : Values → ℕ) → f (S-values o) ≡ f (S-values p) = λ f. ap f e in
    λ i. record {
      opcode = at (λ v. v.opcode) i;
      funct3 = at (λ v. v.funct3) i;
      rs1 = same_num o.rs1 p.rs1 (at (λ v. v.a)) i;
      rs2 = same_num o.rs2 p.rs2 (at (λ v. v.b)) i;
      imm = same_signed o.imm p.imm (lit< tt) (at (λ v. v.n)) i;
    }

pub S-held : (v : Values) → Fit (layout kind.S) v → (o : SOperands) × ((S-fault o ≡ None) × (S-values o ≡ v))
S-held v h =
    let o : SOperands = record { opcode = v.opcode; funct3 = v.funct3; rs1 = record { value = v.a; ok = h A }; rs2 = record { value = v.b; ok = h B }; imm = signed_of 12 v.n (h N) } in
    let lawful = none_wide (S-codes o) (h Opcode, (h Funct3, tt)) in
    (o, (lawful, same_values (none_there v.d (h D)) refl refl (signed_of_bits 12 v.n (h N)) (none_there v.m (h M)) refl refl (none_there v.funct (h Funct))))

-- ---- U

pub U-fits : (o : UOperands) → U-fault o ≡ None → Fit (layout kind.U) (U-values o)
U-fits o e =
    let c = narrow (U-codes o) e in
    fit_of (layout kind.U) (U-values o) o.rd.ok (lit< tt) (lit< tt) (signed_lt o.imm) (lit< tt) c.0 (lit< tt) (lit< tt)

pub U-known : (o p : UOperands) → U-values o ≡ U-values p → o ≡ p
U-known o p e =
    let at : (f : Values → ℕ) → f (U-values o) ≡ f (U-values p) = λ f. ap f e in
    λ i. record {
      opcode = at (λ v. v.opcode) i;
      rd = same_num o.rd p.rd (at (λ v. v.d)) i;
      imm = same_signed o.imm p.imm (lit< tt) (at (λ v. v.n)) i;
    }

pub U-held : (v : Values) → Fit (layout kind.U) v → (o : UOperands) × ((U-fault o ≡ None) × (U-values o ≡ v))
U-held v h =
    let o : UOperands = record { opcode = v.opcode; rd = record { value = v.d; ok = h D }; imm = signed_of 20 v.n (h N) } in
    let lawful = none_wide (U-codes o) (h Opcode, tt) in
    (o, (lawful, same_values refl (none_there v.a (h A)) (none_there v.b (h B)) (signed_of_bits 20 v.n (h N)) (none_there v.m (h M)) refl (none_there v.funct3 (h Funct3)) (none_there v.funct (h Funct))))
