-- The laws of each format.
use Rattle.std.proofs.Common.{◌≡◌, ℕ, None, sym, refl, ap, lit<}
use Rattle.bits.specs.declared.part.Values.{Values}
use Rattle.bits.specs.declared.part.Field.TheVariants.{D, A, B, N, M, Opcode, Funct3, Funct}
use Rattle.bits.specs.Layout.{Fit}
use Rattle.operands.proofs.Sames.{signed_lt, signed_of, signed_of_bits, same_signed, same_num, same_unsigned}
use Rattle.formats.specs.declared.kind.Kind.{Kind}
use Rattle.formats.specs.declared.kind.Kind.TheVariants as kind
use Rattle.formats.specs.Layouts.{layout}
use Rattle.formats.specs.Lawful.{Spans}
use Rattle.formats.proofs.Codes.{narrow, none_wide, none_there}
use Rattle.formats.proofs.Sound.{fit_of}
use Rattle.formats.proofs.Made.{fit_as, spans_at, same_values}
use Rattle.stack.specs.declared.operands_of.CiAddi16spOperands.{CiAddi16spOperands}
use Rattle.stack.specs.declared.operands_of.CiLoadOperands.{CiLoadOperands}
use Rattle.stack.specs.declared.operands_of.CssOperands.{CssOperands}
use Rattle.stack.specs.Operands.{CiAddi16sp-values, CiAddi16sp-fault, CiAddi16sp-codes, CiLoad-values, CiLoad-fault, CiLoad-codes, Css-values, Css-fault, Css-codes}

-- ---- CiAddi16sp

pub CiAddi16sp-fits : (o : CiAddi16spOperands) → CiAddi16sp-fault o ≡ None → Fit (layout kind.CiAddi16sp) (CiAddi16sp-values o)
CiAddi16sp-fits o e =
    let c = narrow (CiAddi16sp-codes o) e in
    fit_of (layout kind.CiAddi16sp) (CiAddi16sp-values o) (lit< tt) (lit< tt) (lit< tt) (signed_lt o.imm) (lit< tt) c.0 c.1.0 (lit< tt)

pub CiAddi16sp-known : (o p : CiAddi16spOperands) → CiAddi16sp-values o ≡ CiAddi16sp-values p → o ≡ p
CiAddi16sp-known o p e =
    let at : (f : Values → ℕ) → f (CiAddi16sp-values o) ≡ f (CiAddi16sp-values p) = λ f. ap f e in
    λ i. record {
      opcode = at (λ v. v.opcode) i;
      imm = same_signed o.imm p.imm (lit< tt) (at (λ v. v.n)) i;
      funct3 = at (λ v. v.funct3) i;
    }

pub CiAddi16sp-held : (v : Values) → Fit (layout kind.CiAddi16sp) v → (o : CiAddi16spOperands) × ((CiAddi16sp-fault o ≡ None) × (CiAddi16sp-values o ≡ v))
CiAddi16sp-held v h =
    let o : CiAddi16spOperands = record { opcode = v.opcode; imm = signed_of 6 v.n (h N); funct3 = v.funct3 } in
    let lawful = none_wide (CiAddi16sp-codes o) (h Opcode, (h Funct3, tt)) in
    (o, (lawful, same_values (none_there v.d (h D)) (none_there v.a (h A)) (none_there v.b (h B)) (signed_of_bits 6 v.n (h N)) (none_there v.m (h M)) refl refl (none_there v.funct (h Funct))))

-- ---- CiLoad: of any access, its fields are as wide as those of a word's

pub CiLoad-fits : (k : Kind) → Spans k kind.CiLwsp → (o : CiLoadOperands) → CiLoad-fault o ≡ None → Fit (layout k) (CiLoad-values o)
CiLoad-fits k w o e =
    let c = narrow (CiLoad-codes o) e in
    fit_as (layout kind.CiLwsp) (layout k) (λ f. sym (spans_at w f)) (CiLoad-values o) (fit_of (layout kind.CiLwsp) (CiLoad-values o) o.rd.ok (lit< tt) (lit< tt) o.imm.ok (lit< tt) c.0 c.1.0 (lit< tt))

pub CiLoad-known : (o p : CiLoadOperands) → CiLoad-values o ≡ CiLoad-values p → o ≡ p
CiLoad-known o p e =
    let at : (f : Values → ℕ) → f (CiLoad-values o) ≡ f (CiLoad-values p) = λ f. ap f e in
    λ i. record {
      opcode = at (λ v. v.opcode) i;
      rd = same_num o.rd p.rd (at (λ v. v.d)) i;
      imm = same_unsigned o.imm p.imm (at (λ v. v.n)) i;
      funct3 = at (λ v. v.funct3) i;
    }

pub CiLoad-held : (k : Kind) → Spans k kind.CiLwsp → (v : Values) → Fit (layout k) v → (o : CiLoadOperands) × ((CiLoad-fault o ≡ None) × (CiLoad-values o ≡ v))
CiLoad-held k w v f =
    let h = fit_as (layout k) (layout kind.CiLwsp) (spans_at w) v f in
    let o : CiLoadOperands = record { opcode = v.opcode; rd = record { value = v.d; ok = h D }; imm = record { value = v.n; ok = h N }; funct3 = v.funct3 } in
    let lawful = none_wide (CiLoad-codes o) (h Opcode, (h Funct3, tt)) in
    (o, (lawful, same_values refl (none_there v.a (h A)) (none_there v.b (h B)) refl (none_there v.m (h M)) refl refl (none_there v.funct (h Funct))))

-- ---- Css: of any access, its fields are as wide as those of a word's

pub Css-fits : (k : Kind) → Spans k kind.CssWord → (o : CssOperands) → Css-fault o ≡ None → Fit (layout k) (Css-values o)
Css-fits k w o e =
    let c = narrow (Css-codes o) e in
    fit_as (layout kind.CssWord) (layout k) (λ f. sym (spans_at w f)) (Css-values o) (fit_of (layout kind.CssWord) (Css-values o) (lit< tt) (lit< tt) o.src.ok o.imm.ok (lit< tt) c.0 c.1.0 (lit< tt))

pub Css-known : (o p : CssOperands) → Css-values o ≡ Css-values p → o ≡ p
Css-known o p e =
    let at : (f : Values → ℕ) → f (Css-values o) ≡ f (Css-values p) = λ f. ap f e in
    λ i. record {
      opcode = at (λ v. v.opcode) i;
      src = same_num o.src p.src (at (λ v. v.b)) i;
      imm = same_unsigned o.imm p.imm (at (λ v. v.n)) i;
      funct3 = at (λ v. v.funct3) i;
    }

pub Css-held : (k : Kind) → Spans k kind.CssWord → (v : Values) → Fit (layout k) v → (o : CssOperands) × ((Css-fault o ≡ None) × (Css-values o ≡ v))
Css-held k w v f =
    let h = fit_as (layout k) (layout kind.CssWord) (spans_at w) v f in
    let o : CssOperands = record { opcode = v.opcode; src = record { value = v.b; ok = h B }; imm = record { value = v.n; ok = h N }; funct3 = v.funct3 } in
    let lawful = none_wide (Css-codes o) (h Opcode, (h Funct3, tt)) in
    (o, (lawful, same_values (none_there v.d (h D)) (none_there v.a (h A)) refl refl (none_there v.m (h M)) refl refl (none_there v.funct (h Funct))))
