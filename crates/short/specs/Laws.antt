-- The laws of each format.
use Rattle.std.proofs.Common.{◌≡◌, ℕ, None, refl, ap, lit<}
use Rattle.bits.specs.declared.part.Values.{Values}
use Rattle.bits.specs.declared.part.Field.TheVariants.{D, A, B, N, M, Opcode, Funct3, Funct}
use Rattle.bits.specs.Layout.{Fit}
use Rattle.operands.proofs.Sames.{signed_lt, signed_of, signed_of_bits, same_signed, same_num, same_unsigned}
use Rattle.formats.specs.declared.kind.Kind.TheVariants as kind
use Rattle.formats.specs.Layouts.{layout}
use Rattle.formats.proofs.Codes.{narrow, none_wide, none_there}
use Rattle.formats.proofs.Sound.{fit_of}
use Rattle.formats.proofs.Made.{same_values}
use Rattle.short.specs.declared.operands_of.CaOperands.{CaOperands}
use Rattle.short.specs.declared.operands_of.CbOperands.{CbOperands}
use Rattle.short.specs.declared.operands_of.CiOperands.{CiOperands}
use Rattle.short.specs.declared.operands_of.CiwOperands.{CiwOperands}
use Rattle.short.specs.declared.operands_of.CrOperands.{CrOperands}
use Rattle.short.specs.declared.operands_of.Cr2Operands.{Cr2Operands}
use Rattle.short.specs.declared.operands_of.CrBareOperands.{CrBareOperands}
use Rattle.short.specs.Operands.{Ca-values, Ca-fault, Ca-codes, Cb-values, Cb-fault, Cb-codes, Ci-values, Ci-fault, Ci-codes, Ciw-values, Ciw-fault, Ciw-codes, Cr-values, Cr-fault, Cr-codes, Cr2-values, Cr2-fault, Cr2-codes, CrBare-values, CrBare-fault, CrBare-codes}

-- ---- Ca

pub Ca-fits : (o : CaOperands) → Ca-fault o ≡ None → Fit (layout kind.Ca) (Ca-values o)
Ca-fits o e =
    let c = narrow (Ca-codes o) e in
    fit_of (layout kind.Ca) (Ca-values o) o.rd.ok (lit< tt) o.rs2.ok (lit< tt) (lit< tt) c.0 c.1.0 c.1.1.0

pub Ca-known : (o p : CaOperands) → Ca-values o ≡ Ca-values p → o ≡ p
Ca-known o p e =
    let at : (f : Values → ℕ) → f (Ca-values o) ≡ f (Ca-values p) = λ f. ap f e in
    λ i. record {
      opcode = at (λ v. v.opcode) i;
      rs2 = same_num o.rs2 p.rs2 (at (λ v. v.b)) i;
      funct2 = at (λ v. v.funct3) i;
      rd = same_num o.rd p.rd (at (λ v. v.d)) i;
      funct6 = at (λ v. v.funct) i;
    }

pub Ca-held : (v : Values) → Fit (layout kind.Ca) v → (o : CaOperands) × ((Ca-fault o ≡ None) × (Ca-values o ≡ v))
Ca-held v h =
    let o : CaOperands = record { opcode = v.opcode; rs2 = record { value = v.b; ok = h B }; funct2 = v.funct3; rd = record { value = v.d; ok = h D }; funct6 = v.funct } in
    let lawful = none_wide (Ca-codes o) (h Opcode, (h Funct3, (h Funct, tt))) in
    (o, (lawful, same_values refl (none_there v.a (h A)) refl (none_there v.n (h N)) (none_there v.m (h M)) refl refl refl))

-- ---- Cb

pub Cb-fits : (o : CbOperands) → Cb-fault o ≡ None → Fit (layout kind.Cb) (Cb-values o)
Cb-fits o e =
    let c = narrow (Cb-codes o) e in
    fit_of (layout kind.Cb) (Cb-values o) o.rd.ok (lit< tt) (lit< tt) (signed_lt o.imm) (lit< tt) c.0 c.1.1.0 c.1.0

pub Cb-known : (o p : CbOperands) → Cb-values o ≡ Cb-values p → o ≡ p
Cb-known o p e =
    let at : (f : Values → ℕ) → f (Cb-values o) ≡ f (Cb-values p) = λ f. ap f e in
    λ i. record {
      opcode = at (λ v. v.opcode) i;
      imm = same_signed o.imm p.imm (lit< tt) (at (λ v. v.n)) i;
      rd = same_num o.rd p.rd (at (λ v. v.d)) i;
      funct2 = at (λ v. v.funct) i;
      funct3 = at (λ v. v.funct3) i;
    }

pub Cb-held : (v : Values) → Fit (layout kind.Cb) v → (o : CbOperands) × ((Cb-fault o ≡ None) × (Cb-values o ≡ v))
Cb-held v h =
    let o : CbOperands = record { opcode = v.opcode; imm = signed_of 6 v.n (h N); rd = record { value = v.d; ok = h D }; funct2 = v.funct; funct3 = v.funct3 } in
    let lawful = none_wide (Cb-codes o) (h Opcode, (h Funct, (h Funct3, tt))) in
    (o, (lawful, same_values refl (none_there v.a (h A)) (none_there v.b (h B)) (signed_of_bits 6 v.n (h N)) (none_there v.m (h M)) refl refl refl))

-- ---- Ci

pub Ci-fits : (o : CiOperands) → Ci-fault o ≡ None → Fit (layout kind.Ci) (Ci-values o)
Ci-fits o e =
    let c = narrow (Ci-codes o) e in
    fit_of (layout kind.Ci) (Ci-values o) o.rd.ok (lit< tt) (lit< tt) (signed_lt o.imm) (lit< tt) c.0 c.1.0 (lit< tt)

pub Ci-known : (o p : CiOperands) → Ci-values o ≡ Ci-values p → o ≡ p
Ci-known o p e =
    let at : (f : Values → ℕ) → f (Ci-values o) ≡ f (Ci-values p) = λ f. ap f e in
    λ i. record {
      opcode = at (λ v. v.opcode) i;
      imm = same_signed o.imm p.imm (lit< tt) (at (λ v. v.n)) i;
      rd = same_num o.rd p.rd (at (λ v. v.d)) i;
      funct3 = at (λ v. v.funct3) i;
    }

pub Ci-held : (v : Values) → Fit (layout kind.Ci) v → (o : CiOperands) × ((Ci-fault o ≡ None) × (Ci-values o ≡ v))
Ci-held v h =
    let o : CiOperands = record { opcode = v.opcode; imm = signed_of 6 v.n (h N); rd = record { value = v.d; ok = h D }; funct3 = v.funct3 } in
    let lawful = none_wide (Ci-codes o) (h Opcode, (h Funct3, tt)) in
    (o, (lawful, same_values refl (none_there v.a (h A)) (none_there v.b (h B)) (signed_of_bits 6 v.n (h N)) (none_there v.m (h M)) refl refl (none_there v.funct (h Funct))))

-- ---- Ciw

pub Ciw-fits : (o : CiwOperands) → Ciw-fault o ≡ None → Fit (layout kind.Ciw) (Ciw-values o)
Ciw-fits o e =
    let c = narrow (Ciw-codes o) e in
    fit_of (layout kind.Ciw) (Ciw-values o) o.rd.ok (lit< tt) (lit< tt) o.imm.ok (lit< tt) c.0 c.1.0 (lit< tt)

pub Ciw-known : (o p : CiwOperands) → Ciw-values o ≡ Ciw-values p → o ≡ p
Ciw-known o p e =
    let at : (f : Values → ℕ) → f (Ciw-values o) ≡ f (Ciw-values p) = λ f. ap f e in
    λ i. record {
      opcode = at (λ v. v.opcode) i;
      rd = same_num o.rd p.rd (at (λ v. v.d)) i;
      imm = same_unsigned o.imm p.imm (at (λ v. v.n)) i;
      funct3 = at (λ v. v.funct3) i;
    }

pub Ciw-held : (v : Values) → Fit (layout kind.Ciw) v → (o : CiwOperands) × ((Ciw-fault o ≡ None) × (Ciw-values o ≡ v))
Ciw-held v h =
    let o : CiwOperands = record { opcode = v.opcode; rd = record { value = v.d; ok = h D }; imm = record { value = v.n; ok = h N }; funct3 = v.funct3 } in
    let lawful = none_wide (Ciw-codes o) (h Opcode, (h Funct3, tt)) in
    (o, (lawful, same_values refl (none_there v.a (h A)) (none_there v.b (h B)) refl (none_there v.m (h M)) refl refl (none_there v.funct (h Funct))))

-- ---- Cr

pub Cr-fits : (o : CrOperands) → Cr-fault o ≡ None → Fit (layout kind.Cr) (Cr-values o)
Cr-fits o e =
    let c = narrow (Cr-codes o) e in
    fit_of (layout kind.Cr) (Cr-values o) o.rd.ok (lit< tt) o.rs2.ok (lit< tt) (lit< tt) c.0 (lit< tt) c.1.0

pub Cr-known : (o p : CrOperands) → Cr-values o ≡ Cr-values p → o ≡ p
Cr-known o p e =
    let at : (f : Values → ℕ) → f (Cr-values o) ≡ f (Cr-values p) = λ f. ap f e in
    λ i. record {
      opcode = at (λ v. v.opcode) i;
      rs2 = same_num o.rs2 p.rs2 (at (λ v. v.b)) i;
      rd = same_num o.rd p.rd (at (λ v. v.d)) i;
      funct4 = at (λ v. v.funct) i;
    }

pub Cr-held : (v : Values) → Fit (layout kind.Cr) v → (o : CrOperands) × ((Cr-fault o ≡ None) × (Cr-values o ≡ v))
Cr-held v h =
    let o : CrOperands = record { opcode = v.opcode; rs2 = record { value = v.b; ok = h B }; rd = record { value = v.d; ok = h D }; funct4 = v.funct } in
    let lawful = none_wide (Cr-codes o) (h Opcode, (h Funct, tt)) in
    (o, (lawful, same_values refl (none_there v.a (h A)) refl (none_there v.n (h N)) (none_there v.m (h M)) refl (none_there v.funct3 (h Funct3)) refl))

-- ---- Cr2

pub Cr2-fits : (o : Cr2Operands) → Cr2-fault o ≡ None → Fit (layout kind.Cr2) (Cr2-values o)
Cr2-fits o e =
    let c = narrow (Cr2-codes o) e in
    fit_of (layout kind.Cr2) (Cr2-values o) (lit< tt) o.rs1.ok (lit< tt) (lit< tt) (lit< tt) c.0 (lit< tt) c.1.0

pub Cr2-known : (o p : Cr2Operands) → Cr2-values o ≡ Cr2-values p → o ≡ p
Cr2-known o p e =
    let at : (f : Values → ℕ) → f (Cr2-values o) ≡ f (Cr2-values p) = λ f. ap f e in
    λ i. record {
      opcode = at (λ v. v.opcode) i;
      rs1 = same_num o.rs1 p.rs1 (at (λ v. v.a)) i;
      funct4 = at (λ v. v.funct) i;
    }

pub Cr2-held : (v : Values) → Fit (layout kind.Cr2) v → (o : Cr2Operands) × ((Cr2-fault o ≡ None) × (Cr2-values o ≡ v))
Cr2-held v h =
    let o : Cr2Operands = record { opcode = v.opcode; rs1 = record { value = v.a; ok = h A }; funct4 = v.funct } in
    let lawful = none_wide (Cr2-codes o) (h Opcode, (h Funct, tt)) in
    (o, (lawful, same_values (none_there v.d (h D)) refl (none_there v.b (h B)) (none_there v.n (h N)) (none_there v.m (h M)) refl (none_there v.funct3 (h Funct3)) refl))

-- ---- CrBare

pub CrBare-fits : (o : CrBareOperands) → CrBare-fault o ≡ None → Fit (layout kind.CrBare) (CrBare-values o)
CrBare-fits o e =
    let c = narrow (CrBare-codes o) e in
    fit_of (layout kind.CrBare) (CrBare-values o) (lit< tt) (lit< tt) (lit< tt) (lit< tt) (lit< tt) c.0 (lit< tt) c.1.0

pub CrBare-known : (o p : CrBareOperands) → CrBare-values o ≡ CrBare-values p → o ≡ p
CrBare-known o p e =
    let at : (f : Values → ℕ) → f (CrBare-values o) ≡ f (CrBare-values p) = λ f. ap f e in
    λ i. record {
      opcode = at (λ v. v.opcode) i;
      funct4 = at (λ v. v.funct) i;
    }

pub CrBare-held : (v : Values) → Fit (layout kind.CrBare) v → (o : CrBareOperands) × ((CrBare-fault o ≡ None) × (CrBare-values o ≡ v))
CrBare-held v h =
    let o : CrBareOperands = record { opcode = v.opcode; funct4 = v.funct } in
    let lawful = none_wide (CrBare-codes o) (h Opcode, (h Funct, tt)) in
    (o, (lawful, same_values (none_there v.d (h D)) (none_there v.a (h A)) (none_there v.b (h B)) (none_there v.n (h N)) (none_there v.m (h M)) refl (none_there v.funct3 (h Funct3)) refl))
