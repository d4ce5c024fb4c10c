-- The laws of each format.
use Rattle.std.proofs.Common.{◌≡◌, ℕ, None, refl, ap, lit<}
use Rattle.bits.specs.declared.part.Values.{Values}
use Rattle.bits.specs.declared.part.Field.TheVariants.{D, A, B, N, M, Opcode, Funct3, Funct}
use Rattle.bits.specs.Layout.{Fit}
use Rattle.operands.proofs.Sames.{signed_lt, signed_of, signed_of_bits, mask_lt, mask_of, mask_of_bits, same_signed, same_mask, same_num}
use Rattle.formats.specs.declared.kind.Kind.TheVariants as kind
use Rattle.formats.specs.Layouts.{layout}
use Rattle.formats.proofs.Codes.{narrow, none_wide, none_there}
use Rattle.formats.proofs.Sound.{fit_of}
use Rattle.formats.proofs.Made.{same_values}
use Rattle.vectors.specs.declared.operands_of.VOperands.{VOperands}
use Rattle.vectors.specs.declared.operands_of.VImmOperands.{VImmOperands}
use Rattle.vectors.specs.declared.operands_of.VMemOperands.{VMemOperands}
use Rattle.vectors.specs.Operands.{V-values, V-fault, V-codes, VImm-values, VImm-fault, VImm-codes, VMem-values, VMem-fault, VMem-codes}

-- ---- V

pub V-fits : (o : VOperands) → V-fault o ≡ None → Fit (layout kind.V) (V-values o)
V-fits o e =
    let c = narrow (V-codes o) e in
    fit_of (layout kind.V) (V-values o) o.vd.ok o.vs1.ok o.vs2.ok (lit< tt) (mask_lt o.masking) c.0 c.1.0 c.1.1.0

pub V-known : (o p : VOperands) → V-values o ≡ V-values p → o ≡ p
V-known o p e =
    let at : (f : Values → ℕ) → f (V-values o) ≡ f (V-values p) = λ f. ap f e in
    λ i. record {
      opcode = at (λ v. v.opcode) i;
      vd = same_num o.vd p.vd (at (λ v. v.d)) i;
      funct3 = at (λ v. v.funct3) i;
      vs1 = same_num o.vs1 p.vs1 (at (λ v. v.a)) i;
      vs2 = same_num o.vs2 p.vs2 (at (λ v. v.b)) i;
      masking = same_mask o.masking p.masking (at (λ v. v.m)) i;
      funct6 = at (λ v. v.funct) i;
    }

pub V-held : (v : Values) → Fit (layout kind.V) v → (o : VOperands) × ((V-fault o ≡ None) × (V-values o ≡ v))
V-held v h =
    let o : VOperands = record { opcode = v.opcode; vd = record { value = v.d; ok = h D }; funct3 = v.funct3; vs1 = record { value = v.a; ok = h A }; vs2 = record { value = v.b; ok = h B }; masking = mask_of v.m (h M); funct6 = v.funct } in
    let lawful = none_wide (V-codes o) (h Opcode, (h Funct3, (h Funct, tt))) in
    (o, (lawful, same_values refl refl refl (none_there v.n (h N)) (mask_of_bits v.m (h M)) refl refl refl))

-- ---- VImm

pub VImm-fits : (o : VImmOperands) → VImm-fault o ≡ None → Fit (layout kind.VImm) (VImm-values o)
VImm-fits o e =
    let c = narrow (VImm-codes o) e in
    fit_of (layout kind.VImm) (VImm-values o) o.vd.ok (lit< tt) o.vs2.ok (signed_lt o.imm) (mask_lt o.masking) c.0 c.1.0 c.1.1.0

pub VImm-known : (o p : VImmOperands) → VImm-values o ≡ VImm-values p → o ≡ p
VImm-known o p e =
    let at : (f : Values → ℕ) → f (VImm-values o) ≡ f (VImm-values p) = λ f. ap f e in
    λ i. record {
      opcode = at (λ v. v.opcode) i;
      vd = same_num o.vd p.vd (at (λ v. v.d)) i;
      funct3 = at (λ v. v.funct3) i;
      imm = same_signed o.imm p.imm (lit< tt) (at (λ v. v.n)) i;
      vs2 = same_num o.vs2 p.vs2 (at (λ v. v.b)) i;
      masking = same_mask o.masking p.masking (at (λ v. v.m)) i;
      funct6 = at (λ v. v.funct) i;
    }

pub VImm-held : (v : Values) → Fit (layout kind.VImm) v → (o : VImmOperands) × ((VImm-fault o ≡ None) × (VImm-values o ≡ v))
VImm-held v h =
    let o : VImmOperands = record { opcode = v.opcode; vd = record { value = v.d; ok = h D }; funct3 = v.funct3; imm = signed_of 5 v.n (h N); vs2 = record { value = v.b; ok = h B }; masking = mask_of v.m (h M); funct6 = v.funct } in
    let lawful = none_wide (VImm-codes o) (h Opcode, (h Funct3, (h Funct, tt))) in
    (o, (lawful, same_values refl (none_there v.a (h A)) refl (signed_of_bits 5 v.n (h N)) (mask_of_bits v.m (h M)) refl refl refl))

-- ---- VMem

pub VMem-fits : (o : VMemOperands) → VMem-fault o ≡ None → Fit (layout kind.VMem) (VMem-values o)
VMem-fits o e =
    let c = narrow (VMem-codes o) e in
    fit_of (layout kind.VMem) (VMem-values o) o.vd.ok o.rs1.ok (lit< tt) (lit< tt) (mask_lt o.masking) c.0 c.1.0 (lit< tt)

pub VMem-known : (o p : VMemOperands) → VMem-values o ≡ VMem-values p → o ≡ p
VMem-known o p e =
    let at : (f : Values → ℕ) → f (VMem-values o) ≡ f (VMem-values p) = λ f. ap f e in
    λ i. record {
      opcode = at (λ v. v.opcode) i;
      vd = same_num o.vd p.vd (at (λ v. v.d)) i;
      width = at (λ v. v.funct3) i;
      rs1 = same_num o.rs1 p.rs1 (at (λ v. v.a)) i;
      masking = same_mask o.masking p.masking (at (λ v. v.m)) i;
    }

pub VMem-held : (v : Values) → Fit (layout kind.VMem) v → (o : VMemOperands) × ((VMem-fault o ≡ None) × (VMem-values o ≡ v))
VMem-held v h =
    let o : VMemOperands = record { opcode = v.opcode; vd = record { value = v.d; ok = h D }; width = v.funct3; rs1 = record { value = v.a; ok = h A }; masking = mask_of v.m (h M) } in
    let lawful = none_wide (VMem-codes o) (h Opcode, (h Funct3, tt)) in
    (o, (lawful, same_values refl refl (none_there v.b (h B)) (none_there v.n (h N)) (mask_of_bits v.m (h M)) refl refl (none_there v.funct (h Funct))))
