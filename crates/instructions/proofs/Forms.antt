-- What holds of each operation by computing, and what follows of an instruction's fields in its word.
use Rattle.std.proofs.Common.{◌≡◌, ℕ, ◌^◌, ◌<◌, Bool, true, eqb, ltb, leb, List, [], ◌∷◌, Some, None, Option, ℤ, pos, negsuc, sym, refl, subst, arith, pow_pos}
use Rattle.std.specs.List.{list_all}
use Rattle.std.proofs.lemmas.Bool.{eqb-true, ltb-true, leb-true}
use Rattle.std.proofs.lemmas.Bool.Decides.{nat_tests}
use Rattle.bits.specs.declared.part.Field.TheVariants.{D, A, B, N, M, Opcode, Funct3, Funct}
use Rattle.bits.specs.Layout.{span, Fit}
use Rattle.formats.specs.Layouts.{layout}
use Rattle.formats.proofs.Sound.{fit_of}
use Rattle.operations.specs.declared.row.Use.{Use}
use Rattle.operations.specs.declared.row.Use.TheVariants.{Full, Short}
use Rattle.operations.specs.declared.row.Number.{Number}
use Rattle.operations.specs.declared.row.Number.TheVariants.{Signed, Unsigned}
use Rattle.operations.specs.declared.row.Masking.{Masking}
use Rattle.operations.specs.declared.row.Form.{Form}
use Rattle.operations.specs.Manual.{Entry, operations, form_at, no_entry, count}
use Rattle.operations.proofs.Rows.{operations_length}
use Rattle.instructions.specs.declared.fields.Fields.{Fields}
use Rattle.instructions.specs.Faults.{reg_ok, lawful, Workable, SomeBits}
use Rattle.instructions.specs.Words.{raw_reg, raw_mask, raw}
use Rattle.instructions.proofs.Checks.{all, test, every_at, range_at}
use Rattle.instructions.proofs.Constants.{number_width, Halved, halved_of, number_lt}

abbrev pub reg_width : Option Use → ℕ
reg_width None = 0
reg_width (Some (Full c e)) = 5
reg_width (Some (Short c)) = 3

abbrev pub mask_width : Option Masking → ℕ
mask_width None = 0
mask_width (Some u) = 1

abbrev bits_tests : ℕ → ℕ → List Bool
bits_tests k u = ltb 0 k ∷ ltb k 32 ∷ ltb 0 u ∷ leb u 16 ∷ []

abbrev workable : Option Number → Bool
workable None = true
workable (Some (Signed k u w)) = all (bits_tests k u)
workable (Some (Unsigned k u w)) = all (bits_tests k u)

some_bits : (k u : ℕ) → all (bits_tests k u) ≡ true → SomeBits k u
some_bits k u t =
    let at = test (bits_tests k u) t in
    record { wide = ltb-true 0 k (at 0); narrow = ltb-true k 32 (at 1); some = ltb-true 0 u (at 2); small = leb-true u 16 (at 3) }

works : (c : Option Number) → workable c ≡ true → Workable c
works None t = tt
works (Some (Signed k u w)) t = some_bits k u t
works (Some (Unsigned k u w)) t = some_bits k u t

abbrev tests : Form → List Bool
tests r =
    eqb (span (layout r.kind) D) (reg_width r.d)
    ∷ eqb (span (layout r.kind) A) (reg_width r.a)
    ∷ eqb (span (layout r.kind) B) (reg_width r.b)
    ∷ eqb (span (layout r.kind) N) (number_width r.n)
    ∷ eqb (span (layout r.kind) M) (mask_width r.m)
    ∷ ltb r.opcode (2 ^ span (layout r.kind) Opcode)
    ∷ ltb r.funct3 (2 ^ span (layout r.kind) Funct3)
    ∷ ltb r.funct (2 ^ span (layout r.kind) Funct)
    ∷ workable r.n
    ∷ []

-- a form that agrees with its format's layout
pub record Agrees (r : Form) : Type 0 where
  pub d_span : span (layout r.kind) D ≡ reg_width r.d
  pub a_span : span (layout r.kind) A ≡ reg_width r.a
  pub b_span : span (layout r.kind) B ≡ reg_width r.b
  pub n_span : span (layout r.kind) N ≡ number_width r.n
  pub m_span : span (layout r.kind) M ≡ mask_width r.m
  pub opcode_lt : r.opcode < 2 ^ span (layout r.kind) Opcode
  pub funct3_lt : r.funct3 < 2 ^ span (layout r.kind) Funct3
  pub funct_lt : r.funct < 2 ^ span (layout r.kind) Funct
  pub works : Workable r.n
  pub halves : Halved r.n

agrees : (r : Form) → all (tests r) ≡ true → Agrees r
agrees r t =
    let at = test (tests r) t in
    let s = layout r.kind in
    record {
      d_span = eqb-true (span s D) (reg_width r.d) (at 0);
      a_span = eqb-true (span s A) (reg_width r.a) (at 1);
      b_span = eqb-true (span s B) (reg_width r.b) (at 2);
      n_span = eqb-true (span s N) (number_width r.n) (at 3);
      m_span = eqb-true (span s M) (mask_width r.m) (at 4);
      opcode_lt = ltb-true r.opcode (2 ^ span s Opcode) (at 5);
      funct3_lt = ltb-true r.funct3 (2 ^ span s Funct3) (at 6);
      funct_lt = ltb-true r.funct (2 ^ span s Funct) (at 7);
      works = works r.n (at 8);
      halves = halved_of r.n (works r.n (at 8));
    }

all_agree : list_all (λ (e : Entry). all (tests e.form)) operations ≡ true
unfolding operations
all_agree = refl

pub form_agrees : (k : ℕ) → k < count → Agrees (form_at k)
form_agrees k h =
    agrees (form_at k) (every_at (λ (e : Entry). all (tests e.form)) operations no_entry all_agree k (subst (λ (n : ℕ). k < n) (sym operations_length) h))

-- ---- the fields in the word

reg_lt : (u : Option Use) (x : ℤ) → reg_ok u x ≡ true → raw_reg u x < 2 ^ reg_width u
reg_lt None x t = pow_pos 0
reg_lt (Some (Full c e)) (pos x) t = grind (arith, nat_tests)
reg_lt (Some (Full c e)) (negsuc x) t = grind (arith, t)
reg_lt (Some (Short c)) (pos x) t = grind (arith, nat_tests)
reg_lt (Some (Short c)) (negsuc x) t = grind (arith, t)

mask_lt : (u : Option Masking) (m : ℤ) → raw_mask u m < 2 ^ mask_width u
mask_lt None m = pow_pos 0
mask_lt (Some u) m = omega arith

spanned : (x a b : ℕ) → a ≡ b → x < 2 ^ b → x < 2 ^ a
spanned x a b e h = subst (λ n. x < 2 ^ n) (sym e) h

-- the fields of a lawful instruction fit its format
pub raw_fits : (r : Form) (f : Fields) → Agrees r → lawful r f ≡ true → Fit (layout r.kind) (raw r f)
raw_fits r f a t =
    let s = layout r.kind in
    let ok = range_at r f t in
    fit_of s (raw r f)
    (spanned _ (span s D) _ a.d_span (reg_lt r.d f.d (ok 0)))
    (spanned _ (span s A) _ a.a_span (reg_lt r.a f.a (ok 1)))
    (spanned _ (span s B) _ a.b_span (reg_lt r.b f.b (ok 2)))
    (spanned _ (span s N) _ a.n_span (number_lt r.n f.n a.halves (ok 3)))
    (spanned _ (span s M) _ a.m_span (mask_lt r.m f.m))
    a.opcode_lt a.funct3_lt a.funct_lt
