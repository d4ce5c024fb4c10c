-- The laws of each format.
use Rattle.std.proofs.Common.{◌≡◌, ℕ, None, sym, refl, ap, lit<}
use Rattle.bits.specs.declared.part.Values.{Values}
use Rattle.bits.specs.declared.part.Field.TheVariants.{D, A, B, N, M, Opcode, Funct3, Funct}
use Rattle.bits.specs.Layout.{Fit}
use Rattle.operands.proofs.Sames.{same_num, same_unsigned}
use Rattle.formats.specs.declared.kind.Kind.{Kind}
use Rattle.formats.specs.declared.kind.Kind.TheVariants as kind
use Rattle.formats.specs.Layouts.{layout}
use Rattle.formats.specs.Lawful.{Spans}
use Rattle.formats.proofs.Codes.{narrow, none_wide, none_there}
use Rattle.formats.proofs.Sound.{fit_of}
use Rattle.formats.proofs.Made.{fit_as, spans_at, same_values}
use Rattle.memory.specs.declared.operands_of.ClOperands.{ClOperands}
use Rattle.memory.specs.declared.operands_of.CsOperands.{CsOperands}
use Rattle.memory.specs.Operands.{Cl-values, Cl-fault, Cl-codes, Cs-values, Cs-fault, Cs-codes}

-- ---- Cl: of any access, its fields are as wide as those of a word's

pub Cl-fits : (k : Kind) → Spans k kind.ClWord → (o : ClOperands) → Cl-fault o ≡ None → Fit (layout k) (Cl-values o)
Cl-fits k w o e =
    let c = narrow (Cl-codes o) e in
    fit_as (layout kind.ClWord) (layout k) (λ f. sym (spans_at w f)) (Cl-values o) (fit_of (layout kind.ClWord) (Cl-values o) o.rd.ok o.base.ok (lit< tt) o.imm.ok (lit< tt) c.0 c.1.0 (lit< tt))

pub Cl-known : (o p : ClOperands) → Cl-values o ≡ Cl-values p → o ≡ p
Cl-known o p e =
    let at : (f : Values → ℕ) → f (Cl-values o) ≡ f (Cl-values p) = λ f. ap f e in
    λ i. record {
      opcode = at (λ v. v.opcode) i;
      rd = same_num o.rd p.rd (at (λ v. v.d)) i;
      base = same_num o.base p.base (at (λ v. v.a)) i;
      imm = same_unsigned o.imm p.imm (at (λ v. v.n)) i;
      funct3 = at (λ v. v.funct3) i;
    }

pub Cl-held : (k : Kind) → Spans k kind.ClWord → (v : Values) → Fit (layout k) v → (o : ClOperands) × ((Cl-fault o ≡ None) × (Cl-values o ≡ v))
Cl-held k w v f =
    let h = fit_as (layout k) (layout kind.ClWord) (spans_at w) v f in
    let o : ClOperands = record { opcode = v.opcode; rd = record { value = v.d; ok = h D }; base = record { value = v.a; ok = h A }; imm = record { value = v.n; ok = h N }; funct3 = v.funct3 } in
    let lawful = none_wide (Cl-codes o) (h Opcode, (h Funct3, tt)) in
    (o, (lawful, same_values refl refl (none_there v.b (h B)) refl (none_there v.m (h M)) refl refl (none_there v.funct (h Funct))))

-- ---- Cs: of any access, its fields are as wide as those of a word's

pub Cs-fits : (k : Kind) → Spans k kind.CsWord → (o : CsOperands) → Cs-fault o ≡ None → Fit (layout k) (Cs-values o)
Cs-fits k w o e =
    let c = narrow (Cs-codes o) e in
    fit_as (layout kind.CsWord) (layout k) (λ f. sym (spans_at w f)) (Cs-values o) (fit_of (layout kind.CsWord) (Cs-values o) (lit< tt) o.base.ok o.src.ok o.imm.ok (lit< tt) c.0 c.1.0 (lit< tt))

pub Cs-known : (o p : CsOperands) → Cs-values o ≡ Cs-values p → o ≡ p
Cs-known o p e =
    let at : (f : Values → ℕ) → f (Cs-values o) ≡ f (Cs-values p) = λ f. ap f e in
    λ i. record {
      opcode = at (λ v. v.opcode) i;
      src = same_num o.src p.src (at (λ v. v.b)) i;
      base = same_num o.base p.base (at (λ v. v.a)) i;
      imm = same_unsigned o.imm p.imm (at (λ v. v.n)) i;
      funct3 = at (λ v. v.funct3) i;
    }

pub Cs-held : (k : Kind) → Spans k kind.CsWord → (v : Values) → Fit (layout k) v → (o : CsOperands) × ((Cs-fault o ≡ None) × (Cs-values o ≡ v))
Cs-held k w v f =
    let h = fit_as (layout k) (layout kind.CsWord) (spans_at w) v f in
    let o : CsOperands = record { opcode = v.opcode; src = record { value = v.b; ok = h B }; base = record { value = v.a; ok = h A }; imm = record { value = v.n; ok = h N }; funct3 = v.funct3 } in
    let lawful = none_wide (Cs-codes o) (h Opcode, (h Funct3, tt)) in
    (o, (lawful, same_values (none_there v.d (h D)) refl refl refl (none_there v.m (h M)) refl refl (none_there v.funct (h Funct))))
