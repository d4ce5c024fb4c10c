-- The two instructions of a pair and their words.
use Rattle.std.proofs.Common.{◌≡◌, ℕ, suc, ◌+◌, ◌-◌, ◌*◌, ◌/◌, ◌%◌, ◌<◌, true, false, [], ◌∷◌, ◌++◌, length, Some, None, ℤ, pos, negsuc, nat_abs, sym, refl, ap, ◌∙◌, subst, ap₂, div-add-mod', arith}
use Rattle.std.proofs.lemmas.Bool.Decides.{nat_tests}
use Rattle.std.proofs.lemmas.Int.{ints}
use Rattle.bits.specs.Layout.{mask, bits}
use Rattle.bits.specs.Twos.{signed}
use Rattle.formats.specs.declared.kind.Kind.TheVariants.{U, I}
use Rattle.formats.specs.Layouts.{layout, size}
use Rattle.operands.specs.declared.regs.Class.TheVariants.{Integer}
use Rattle.operands.specs.Ranges.{Within12, Within20, made}
use Rattle.operations.specs.declared.row.Except.TheVariants.{Nothing}
use Rattle.operations.specs.declared.row.Allowed.TheVariants.{All}
use Rattle.operations.specs.declared.row.Use.TheVariants.{Full}
use Rattle.operations.specs.declared.row.Number.TheVariants.{Signed}
use Rattle.operations.specs.declared.row.Form.{Form}
use Rattle.operations.specs.Manual.{operations, form_at, codes_only}
use Rattle.instructions.specs.declared.fields.Fields.{Fields}
use Rattle.instructions.specs.Faults.{lawful}
use Rattle.instructions.specs.Words.{raw_number, word_of, halves}
use Rattle.instructions.specs.Laws.{InUse, InRange}
use Rattle.instructions.proofs.Lawfuls.{lawful_exactly}
use Rattle.pairs.specs.Pairs.{holds_number, high_of, low_of, lui_place, addi_place, lui_fields, addi_fields, pair_of, held, held_at, PairHolds}
use Rattle.pairs.proofs.Parts.{signed_is, pair_makes}

pub lui_is : lui_place ≡ 28
unfolding operations
lui_is = refl

pub addi_is : addi_place ≡ 10
unfolding operations
addi_is = refl

abbrev lui_form : Form
lui_form = record {
  kind = U;
  opcode = 55;
  funct3 = 0;
  funct = 0;
  mask = mask (layout U);
  bits = bits (layout U) (codes_only 55 0 0);
  d = Some (Full Integer Nothing);
  a = None;
  b = None;
  n = Some (Signed 20 1 All);
  m = None;
  forbids = record { sources = false; mask = false };
}

abbrev addi_form : Form
addi_form = record {
  kind = I;
  opcode = 19;
  funct3 = 0;
  funct = 0;
  mask = mask (layout I);
  bits = bits (layout I) (codes_only 19 0 0);
  d = Some (Full Integer Nothing);
  a = Some (Full Integer Nothing);
  b = None;
  n = Some (Signed 12 1 All);
  m = None;
  forbids = record { sources = false; mask = false };
}

lui_at : form_at lui_place ≡ lui_form
unfolding operations
lui_at = refl

addi_at : form_at addi_place ≡ addi_form
unfolding operations
addi_at = refl

abbrev pub lui_word : ℤ → ℤ → ℕ
lui_word rd h = word_of (form_at lui_place) (lui_fields rd h)

abbrev pub addi_word : ℤ → ℤ → ℕ
addi_word rd l = word_of (form_at addi_place) (addi_fields rd l)

-- ---- lawful

register_in : (rd : ℤ) → holds_number rd ≡ true → InUse (Some (Full Integer Nothing)) rd
register_in (pos x) t = grind (arith, nat_tests)
register_in (negsuc x) t = cc

high_in : (z : ℤ) → Within20 z → InRange (Some (Signed 20 1 All)) z
high_in (pos n) w = (omega (arith, ints), omega (arith, ints))
high_in (negsuc n) w = (omega (arith, ints), omega (arith, ints))

low_in : (z : ℤ) → Within12 z → InRange (Some (Signed 12 1 All)) z
low_in (pos n) w = (omega (arith, ints), omega (arith, ints))
low_in (negsuc n) w = (omega (arith, ints), omega (arith, ints))

pub lui_lawful : (rd h : ℤ) → holds_number rd ≡ true → Within20 h → lawful (form_at lui_place) (lui_fields rd h) ≡ true
lui_lawful rd h r w =
    subst (λ (f : Form). lawful f (lui_fields rd h) ≡ true) (sym lui_at)
    ((lawful_exactly lui_form (lui_fields rd h)).1
    (record {
      d_in = register_in rd r;
      a_in = refl;
      b_in = refl;
      n_in = high_in h w;
      m_in = refl;
      d_takes = tt;
      a_takes = tt;
      b_takes = tt;
      n_takes = tt;
      d_not_b = λ t e. cc;
      d_not_a = λ t v e. cc;
      d_not_v0 = λ t m e. cc;
    }))

pub addi_lawful : (rd l : ℤ) → holds_number rd ≡ true → Within12 l → lawful (form_at addi_place) (addi_fields rd l) ≡ true
addi_lawful rd l r w =
    subst (λ (f : Form). lawful f (addi_fields rd l) ≡ true) (sym addi_at)
    ((lawful_exactly addi_form (addi_fields rd l)).1
    (record {
      d_in = register_in rd r;
      a_in = register_in rd r;
      b_in = refl;
      n_in = low_in l w;
      m_in = refl;
      d_takes = tt;
      a_takes = tt;
      b_takes = tt;
      n_takes = tt;
      d_not_b = λ t e. cc;
      d_not_a = λ t v e. cc;
      d_not_v0 = λ t m e. cc;
    }))

pub lui_size : size (form_at lui_place).kind ≡ 2
lui_size = ap (λ (f : Form). size f.kind) lui_at

pub addi_size : size (form_at addi_place).kind ≡ 2
addi_size = ap (λ (f : Form). size f.kind) addi_at

-- ---- the number that stands in the words

-- the word of each, by its halfwords
pub pair_words : (rd h l : ℤ) → pair_of rd h l ≡ lui_word rd h % 65536 ∷ lui_word rd h / 65536 ∷ addi_word rd l % 65536 ∷ addi_word rd l / 65536 ∷ []
pair_words rd h l = ap₂ (λ m n. halves m (lui_word rd h) ++ halves n (addi_word rd l)) lui_size addi_size

upper_bits : (rd h : ℤ) → lui_word rd h / 4096 % 1048576 ≡ raw_number (Some (Signed 20 1 All)) h % 1048576
upper_bits rd h = ap (λ (f : Form). word_of f (lui_fields rd h) / 4096 % 1048576) lui_at ∙ omega arith

-- the twelve bits above funct3 and the rest
over : (n s d x : ℕ) → n < 4096 → s < 32 → d < 32 → x ≡ ((((0 + n) * 32 + s) * 8 + 0) * 32 + d) * 128 + 19 → x / 1048576 % 4096 ≡ n
over n s d x hn hs hd e = let t : x / 1048576 ≡ n = omega arith in omega arith

lower_bits : (rd l : ℤ) → addi_word rd l / 1048576 % 4096 ≡ raw_number (Some (Signed 12 1 All)) l % 4096
lower_bits rd l = ap (λ (f : Form). word_of f (addi_fields rd l) / 1048576 % 4096) addi_at ∙ over (raw_number (Some (Signed 12 1 All)) l / 1 % 4096) (nat_abs rd / 1 % 32) (nat_abs rd / 1 % 32) (word_of addi_form (addi_fields rd l)) (omega arith) (omega arith) (omega arith) refl ∙ omega arith

high_back : (h : ℤ) → Within20 h → signed 20 (raw_number (Some (Signed 20 1 All)) h % 1048576) ≡ h
high_back (pos n) w = signed_is 20 (n / 1 % 1048576) (pos n) (λ s. omega (arith, ints)) (λ s. omega (arith, ints))
high_back (negsuc n) w = signed_is 20 ((1048576 - suc n / 1) % 1048576) (negsuc n) (λ s. omega (arith, ints)) (λ s. omega (arith, ints))

low_back : (l : ℤ) → Within12 l → signed 12 (raw_number (Some (Signed 12 1 All)) l % 4096) ≡ l
low_back (pos n) w = signed_is 12 (n / 1 % 4096) (pos n) (λ s. omega (arith, ints)) (λ s. omega (arith, ints))
low_back (negsuc n) w = signed_is 12 ((4096 - suc n / 1) % 4096) (negsuc n) (λ s. omega (arith, ints)) (λ s. omega (arith, ints))

-- what the halfwords of two words hold
held_words : (u w : ℕ) → held (u % 65536) (u / 65536) (w % 65536) (w / 65536) ≡ made (signed 20 (u / 4096 % 1048576)) (signed 12 (w / 1048576 % 4096))
held_words u w = ap₂ (λ x y. made (signed 20 (x / 4096 % 1048576)) (signed 12 (y / 1048576 % 4096))) (div-add-mod' u 65536) (div-add-mod' w 65536)

pub held-pair : (rd h l : ℤ) → Within20 h → Within12 l → held_at (pair_of rd h l) 0 ≡ made h l
held-pair rd h l wh wl =
    ap (λ hs. held_at hs 0) (pair_words rd h l)
    ∙ held_words (lui_word rd h) (addi_word rd l)
    ∙ ap₂ (λ x y. made (signed 20 x) (signed 12 y)) (upper_bits rd h) (lower_bits rd l)
    ∙ ap₂ made (high_back h wh) (low_back l wl)

pub pair_four : (rd h l : ℤ) → length (pair_of rd h l) ≡ 4
pair_four rd h l = ap length (pair_words rd h l)

pub pair_holds : PairHolds
pair_holds rd v r t =
    let p = pair_makes.at v t in
    record {
      upper_lawful = lui_lawful rd (high_of v) r p.high_in;
      lower_lawful = addi_lawful rd (low_of v) r p.low_in;
      four = pair_four rd (high_of v) (low_of v);
      holds = held-pair rd (high_of v) (low_of v) p.high_in p.low_in ∙ p.makes;
    }

-- lawful, for what the code has made
pub spelled_lawful : {j k : ℕ} {f g : Fields} → j ≡ k → f ≡ g → lawful (form_at k) g ≡ true → lawful (form_at j) f ≡ true
spelled_lawful p q t = ap₂ (λ k f. lawful (form_at k) f) p q ∙ t
