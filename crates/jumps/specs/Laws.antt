-- The laws of each format.
use Rattle.std.proofs.Common.{◌≡◌, ℕ, [], ◌∷◌, None, refl, ap, ◌∙◌, lit<}
use Rattle.bits.specs.declared.part.Values.{Values}
use Rattle.bits.specs.declared.part.Field.TheVariants.{D, A, B, N, M, Opcode, Funct3, Funct}
use Rattle.bits.specs.Layout.{Fit}
use Rattle.operands.proofs.Sames.{distance_lt, distance_of, distance_of_bits, same_distance, same_num}
use Rattle.formats.specs.declared.kind.Kind.TheVariants as kind
use Rattle.formats.specs.declared.faults.WideCode.TheVariants as wide
use Rattle.formats.specs.Layouts.{layout}
use Rattle.formats.specs.Lawful.{check, first_wide}
use Rattle.formats.specs.Reaching.{with_n}
use Rattle.formats.proofs.Codes.{narrow, none_wide, none_there}
use Rattle.formats.proofs.Sound.{fit_of}
use Rattle.formats.proofs.Made.{same_values}
use Rattle.jumps.specs.declared.operands_of.BOperands.{BOperands}
use Rattle.jumps.specs.declared.operands_of.CjOperands.{CjOperands}
use Rattle.jumps.specs.declared.operands_of.JOperands.{JOperands}
use Rattle.jumps.specs.Operands.{B-values, B-fault, B-codes, Cj-values, Cj-fault, Cj-codes, J-values, J-fault, J-codes}

-- ---- B

pub B-fits : (o : BOperands) → B-fault o ≡ None → Fit (layout kind.B) (B-values o)
B-fits o e =
    let c = narrow (B-codes o) e in
    fit_of (layout kind.B) (B-values o) (lit< tt) o.rs1.ok o.rs2.ok (distance_lt o.distance) (lit< tt) c.0 c.1.0 (lit< tt)

pub B-known : (o p : BOperands) → B-values o ≡ B-values p → o ≡ p
B-known o p e =
    let at : (f : Values → ℕ) → f (B-values o) ≡ f (B-values p) = λ f. ap f e in
    λ i. record {
      opcode = at (λ v. v.opcode) i;
      funct3 = at (λ v. v.funct3) i;
      rs1 = same_num o.rs1 p.rs1 (at (λ v. v.a)) i;
      rs2 = same_num o.rs2 p.rs2 (at (λ v. v.b)) i;
      distance = same_distance o.distance p.distance (at (λ v. v.n)) i;
    }

pub B-held : (v : Values) → Fit (layout kind.B) v → (o : BOperands) × ((B-fault o ≡ None) × (B-values o ≡ v))
B-held v h =
    let o : BOperands = record { opcode = v.opcode; funct3 = v.funct3; rs1 = record { value = v.a; ok = h A }; rs2 = record { value = v.b; ok = h B }; distance = distance_of 12 v.n (h N) } in
    let lawful = none_wide (B-codes o) (h Opcode, (h Funct3, tt)) in
    (o, (lawful, same_values (none_there v.d (h D)) refl refl (distance_of_bits 12 v.n (h N)) (none_there v.m (h M)) refl refl (none_there v.funct (h Funct))))

pub B-kept : (o p : BOperands) (n : ℕ) → B-fault o ≡ None → B-values p ≡ with_n (B-values o) n → B-fault p ≡ None
B-kept o p n f e = ap (λ v. first_wide (check v.opcode 7 wide.Opcode ∷ check v.funct3 3 wide.Funct3 ∷ [])) e ∙ f

-- ---- Cj

pub Cj-fits : (o : CjOperands) → Cj-fault o ≡ None → Fit (layout kind.Cj) (Cj-values o)
Cj-fits o e =
    let c = narrow (Cj-codes o) e in
    fit_of (layout kind.Cj) (Cj-values o) (lit< tt) (lit< tt) (lit< tt) (distance_lt o.distance) (lit< tt) c.0 c.1.0 (lit< tt)

pub Cj-known : (o p : CjOperands) → Cj-values o ≡ Cj-values p → o ≡ p
Cj-known o p e =
    let at : (f : Values → ℕ) → f (Cj-values o) ≡ f (Cj-values p) = λ f. ap f e in
    λ i. record {
      opcode = at (λ v. v.opcode) i;
      distance = same_distance o.distance p.distance (at (λ v. v.n)) i;
      funct3 = at (λ v. v.funct3) i;
    }

pub Cj-held : (v : Values) → Fit (layout kind.Cj) v → (o : CjOperands) × ((Cj-fault o ≡ None) × (Cj-values o ≡ v))
Cj-held v h =
    let o : CjOperands = record { opcode = v.opcode; distance = distance_of 11 v.n (h N); funct3 = v.funct3 } in
    let lawful = none_wide (Cj-codes o) (h Opcode, (h Funct3, tt)) in
    (o, (lawful, same_values (none_there v.d (h D)) (none_there v.a (h A)) (none_there v.b (h B)) (distance_of_bits 11 v.n (h N)) (none_there v.m (h M)) refl refl (none_there v.funct (h Funct))))

pub Cj-kept : (o p : CjOperands) (n : ℕ) → Cj-fault o ≡ None → Cj-values p ≡ with_n (Cj-values o) n → Cj-fault p ≡ None
Cj-kept o p n f e = ap (λ v. first_wide (check v.opcode 2 wide.Opcode ∷ check v.funct3 3 wide.Funct3 ∷ [])) e ∙ f

-- ---- J

pub J-fits : (o : JOperands) → J-fault o ≡ None → Fit (layout kind.J) (J-values o)
J-fits o e =
    let c = narrow (J-codes o) e in
    fit_of (layout kind.J) (J-values o) o.rd.ok (lit< tt) (lit< tt) (distance_lt o.distance) (lit< tt) c.0 (lit< tt) (lit< tt)

pub J-known : (o p : JOperands) → J-values o ≡ J-values p → o ≡ p
J-known o p e =
    let at : (f : Values → ℕ) → f (J-values o) ≡ f (J-values p) = λ f. ap f e in
    λ i. record {
      opcode = at (λ v. v.opcode) i;
      rd = same_num o.rd p.rd (at (λ v. v.d)) i;
      distance = same_distance o.distance p.distance (at (λ v. v.n)) i;
    }

pub J-held : (v : Values) → Fit (layout kind.J) v → (o : JOperands) × ((J-fault o ≡ None) × (J-values o ≡ v))
J-held v h =
    let o : JOperands = record { opcode = v.opcode; rd = record { value = v.d; ok = h D }; distance = distance_of 20 v.n (h N) } in
    let lawful = none_wide (J-codes o) (h Opcode, tt) in
    (o, (lawful, same_values refl (none_there v.a (h A)) (none_there v.b (h B)) (distance_of_bits 20 v.n (h N)) (none_there v.m (h M)) refl (none_there v.funct3 (h Funct3)) (none_there v.funct (h Funct))))

pub J-kept : (o p : JOperands) (n : ℕ) → J-fault o ≡ None → J-values p ≡ with_n (J-values o) n → J-fault p ≡ None
J-kept o p n f e = ap (λ v. first_wide (check v.opcode 7 wide.Opcode ∷ [])) e ∙ f
