-- What the reader's steps come to.
use Rattle.std.proofs.Common.{◌≡◌, ℕ, ◌^◌, ◌<◌, ◌≤◌, Bool, true, false, Decides, Some, None, Option, Ok, Err, Result, sym, refl, ap, ap₂, ◌∙◌, subst, lt_of_lt_of_le, arith, pow_mono}
use lib.Bits.{bit_and}
use Rattle.std.proofs.lemmas.Bool.{false≢true}
use Rattle.std.specs.Bool.{then_some}
use Rattle.std.specs.Result.{result_ok}
use Rattle.bits.specs.declared.part.Field.TheVariants.{D, A, B, N, M}
use Rattle.bits.specs.declared.part.Values.{Values}
use Rattle.bits.specs.Layout.{span, word, Fit}
use Rattle.bits.proofs.Layouts.{picks_only}
use Rattle.formats.specs.declared.kind.Kind.{Kind}
use Rattle.formats.specs.Layouts.{layout}
use Rattle.formats.specs.Lawful.{outcome}
use Rattle.formats.proofs.Sound.{layout_sound}
use Rattle.operations.specs.declared.row.Use.{Use}
use Rattle.operations.specs.declared.row.Use.TheVariants.{Full, Short}
use Rattle.operations.specs.declared.row.Number.{Number}
use Rattle.operations.specs.declared.row.Number.TheVariants.{Signed, Unsigned}
use Rattle.operations.specs.declared.row.Masking.{Masking}
use Rattle.operations.specs.declared.row.Form.{Form}
use Rattle.operations.specs.declared.operation.Operation.{Operation}
use Rattle.operations.specs.Manual.{form_at}
use Rattle.instructions.specs.declared.instruction.Instruction.{Instruction}
use Rattle.instructions.specs.declared.fields.Fields.{Fields}
use Rattle.instructions.specs.declared.fields.BuildFault.{BuildFault}
use Rattle.instructions.specs.Faults.{fault, lawful}
use Rattle.instructions.specs.Words.{raw, word_of, shown}
use Rattle.instructions.proofs.Checks.{good}
use Rattle.instructions.proofs.Constants.{number_width}
use Rattle.instructions.proofs.Forms.{reg_width, mask_width, Agrees, form_agrees, raw_fits}
use Rattle.reading.specs.Fields.{fields_of, Narrow, Narrows}
use Rattle.reading.specs.Reading.{Coded, ValuesAs, ReadsAs}
use Rattle.reading.proofs.Backs.{fields_back, fields_forth}
use Rattle.reading.proofs.Apart.{Fixes, has_bits}

-- a word has one set of fields that fit
pub values_one : (k : Kind) (u v : Values) (w : ℕ) → Fit (layout k) u → Fit (layout k) v → word (layout k) u ≡ w → word (layout k) v ≡ w → u ≡ v
values_one k u v w hu hv eu ev =
    sym (picks_only (layout k) u w (layout_sound k) hu eu) ∙ picks_only (layout k) v w (layout_sound k) hv ev

-- fields that are kept where they have the codes
pub values_kept : (r : Form) (w : ℕ) (v : Values) (b : Bool) (o : Option Values) → Fit (layout r.kind) v × (word (layout r.kind) v ≡ w) → Decides b (Coded r v) → o ≡ then_some b v → ValuesAs r w o
values_kept r w v true o h d e = subst (ValuesAs r w) (sym e) (h.0, d.0 refl, h.1)
values_kept r w v false o h d e = subst (ValuesAs r w) (sym e) (λ u f k q. false≢true (d.1 (subst (Coded r) (values_one r.kind u v w f h.0 q h.1) k)))

-- ---- widths

reg_32 : (u : Option Use) → reg_width u ≤ 5
reg_32 None = omega arith
reg_32 (Some (Full c e)) = omega arith
reg_32 (Some (Short c)) = omega arith

mask_2 : (u : Option Masking) → mask_width u ≤ 1
mask_2 None = omega arith
mask_2 (Some u) = omega arith

spanned : (x a b c : ℕ) → a ≡ b → b ≤ c → x < 2 ^ a → x < 2 ^ c
spanned x a b c e l h = lt_of_lt_of_le (subst (λ n. x < 2 ^ n) e h) (pow_mono l)

narrow_of : (c : Option Number) (x : ℕ) → x < 2 ^ number_width c → Narrow c x
narrow_of None x h = tt
narrow_of (Some (Signed k u w)) x h = h
narrow_of (Some (Unsigned k u w)) x h = h

pub narrows : (r : Form) (v : Values) → Agrees r → Fit (layout r.kind) v → Narrows r v
narrows r v a h =
    let s = layout r.kind in
    record {
      d = spanned v.d (span s D) (reg_width r.d) 5 a.d_span (reg_32 r.d) (h D);
      a = spanned v.a (span s A) (reg_width r.a) 5 a.a_span (reg_32 r.a) (h A);
      b = spanned v.b (span s B) (reg_width r.b) 5 a.b_span (reg_32 r.b) (h B);
      n = narrow_of r.n v.n (subst (λ k. v.n < 2 ^ k) a.n_span (h N));
      m = spanned v.m (span s M) (mask_width r.m) 1 a.m_span (mask_2 r.m) (h M);
    }

-- ---- one operation

-- without the fixed bits it is no word of the operation
pub not_bits : (r : Form) (w : ℕ) → Fixes r → (bit_and w r.mask ≡ r.bits → ⊥) → (f : Fields) → word_of r f ≡ w → ⊥
not_bits r w x n f e = n (ap (λ y. bit_and y r.mask) (sym e) ∙ has_bits r f x)

raw_coded : (r : Form) (f : Fields) → Coded r (raw r f)
raw_coded r f = record { opcode = refl; funct3 = refl; funct = refl }

-- nor where no fields with its codes have it
pub not_values : (r : Form) (w : ℕ) → Agrees r → ((v : Values) → Fit (layout r.kind) v → Coded r v → word (layout r.kind) v ≡ w → ⊥) → (f : Fields) → lawful r f ≡ true → word_of r f ≡ w → ⊥
not_values r w a n f t e = n (raw r f) (raw_fits r f a t) (raw_coded r f) e

-- the fields that are read have it
pub read_word : (r : Form) (w : ℕ) (v : Values) → Agrees r → Fit (layout r.kind) v → Coded r v → word (layout r.kind) v ≡ w → word_of r (fields_of r v) ≡ w
read_word r w v a h c e = ap (word (layout r.kind)) (fields_forth r v a h c.opcode c.funct3 c.funct) ∙ e

clash : (P : Type 0) (o : Option BuildFault) (b : BuildFault) → o ≡ Some b → o ≡ None → P
clash P o b s n = grind (arith, s, n)

-- and are the only ones, so where they have a fault it is no word of the operation
pub not_lawful : (r : Form) (w : ℕ) (v : Values) (b : BuildFault) → Agrees r → Fit (layout r.kind) v → word (layout r.kind) v ≡ w → fault r (fields_of r v) ≡ Some b → (f : Fields) → lawful r f ≡ true → word_of r f ≡ w → ⊥
not_lawful r w v b a h e s f t q =
    let p = values_one r.kind v (raw r f) w h (raw_fits r f a t) e q in
    let g : fields_of r v ≡ f = ap (fields_of r) p ∙ fields_back r f a t in
    clash ⊥ (fault r f) b (ap (fault r) (sym g) ∙ s) (good r f t)

-- so the checked instruction of the fields that are read is the word's, if the operation has it
pub read_checked : (r : Form) (w : ℕ) (o : Operation) (v : Values) (f : Fields) (c : Result Instruction BuildFault) → r ≡ form_at o.place → ValuesAs r w (Some v) → f ≡ fields_of r v → shown c ≡ outcome (fault (form_at o.place) f) (o, f) → ReadsAs o.place w (result_ok c)
read_checked r w o v f c e h g s = go c (fault (form_at o.place) f) refl s
  where
    go : (c : Result Instruction BuildFault) (x : Option BuildFault) → fault (form_at o.place) f ≡ x → shown c ≡ outcome x (o, f) → ReadsAs o.place w (result_ok c)
    go (Ok i) None q s =
        let p : ◌≡◌ {A = Operation × Fields} (i.op, i.fields) (o, f) = cc in
        ap (λ (p : Operation × Fields). word_of (form_at p.0.place) p.1) p ∙ ap (λ r. word_of r f) (sym e)
        ∙ ap (word_of r) g ∙ read_word r w v (subst Agrees (sym e) (form_agrees o.place o.real)) h.0 h.1 h.2
    go (Ok i) (Some b) q s = grind (arith, s)
    go (Err d) None q s = grind (arith, s)
    go (Err d) (Some b) q s =
        record {
          none =
              λ f' t m. not_lawful r w v b (subst Agrees (sym e) (form_agrees o.place o.real)) h.0 h.2
              (ap₂ fault e (sym g) ∙ q) f' (subst (λ r. lawful r f' ≡ true) (sym e) t) (subst (λ r. word_of r f' ≡ w) (sym e) m);
        }
