-- An instruction's fields, out of those of its word and back.
use Rattle.std.proofs.Common.{◌≡◌, ℕ, suc, ◌+◌, ◌-◌, ◌*◌, ◌/◌, ◌%◌, ◌^◌, ◌<◌, ◌≤◌, Bool, true, false, cond, eqb, ltb, Some, None, Option, ℤ, pos, negsuc, nat_abs, refl, ap, ◌∙◌, subst, mul-pos, mul-div_cancel, arith}
use Rattle.std.proofs.lemmas.Bool.{false≢true}
use Rattle.std.proofs.lemmas.Bool.Decides.{nat_tests}
use Rattle.bits.specs.declared.part.Field.TheVariants.{D, A, B, N, M}
use Rattle.bits.specs.declared.part.Values.{Values}
use Rattle.bits.specs.Layout.{span, Fit}
use Rattle.formats.specs.Layouts.{layout}
use Rattle.operations.specs.declared.row.Allowed.{Allowed}
use Rattle.operations.specs.declared.row.Use.{Use}
use Rattle.operations.specs.declared.row.Use.TheVariants.{Full, Short}
use Rattle.operations.specs.declared.row.Number.{Number}
use Rattle.operations.specs.declared.row.Number.TheVariants.{Signed, Unsigned}
use Rattle.operations.specs.declared.row.Masking.{Masking}
use Rattle.operations.specs.declared.row.Masking.TheVariants.{Free}
use Rattle.operations.specs.declared.row.Form.{Form}
use Rattle.instructions.specs.declared.fields.Fields.{Fields}
use Rattle.instructions.specs.Faults.{idle, reg_ok, number_ok, mask_ok, lawful, Workable}
use Rattle.instructions.specs.Words.{raw_reg, raw_number, raw_mask, raw}
use Rattle.instructions.proofs.Checks.{unused_at, range_at}
use Rattle.instructions.proofs.Constants.{number_width, Halved, quot, some}
use Rattle.instructions.proofs.Forms.{reg_width, mask_width, Agrees}
use Rattle.reading.specs.Fields.{reg_of, number_of, mask_of, fields_of}

zero_int : (z : ℤ) → eqb (nat_abs z) 0 ≡ true → pos 0 ≡ z
zero_int (pos n) t = ap pos (let e : 0 ≡ n = grind (arith, nat_tests) in e)
zero_int (negsuc n) t = absurd (let e : suc n ≡ 0 = grind (arith, nat_tests) in omega arith)

-- ---- constants

back_low : (q u H n : ℕ) → q < H → q * u ≡ n → cond (ltb q H) (pos (q * u)) (negsuc ((H + H - q) * u - 1)) ≡ pos n
back_low q u H n h e = ap (λ b. cond b (pos (q * u)) (negsuc ((H + H - q) * u - 1))) t ∙ ap pos e
  where
    t : ltb q H ≡ true
    t = grind (arith, nat_tests)

back_high : (q u H n : ℕ) → 0 < q → q ≤ H → q * u ≡ suc n → cond (ltb (H + H - q) H) (pos ((H + H - q) * u)) (negsuc ((H + H - (H + H - q)) * u - 1)) ≡ negsuc n
back_high q u H n p h e =
    ap (λ b. cond b (pos ((H + H - q) * u)) (negsuc ((H + H - (H + H - q)) * u - 1))) t
    ∙ ap (λ x. negsuc (x * u - 1)) d ∙ ap (λ x. negsuc (x - 1)) e ∙ ap negsuc o
  where
    t : ltb (H + H - q) H ≡ false
    t = grind (arith, nat_tests)

    d : H + H - (H + H - q) ≡ q
    d = omega arith

    o : suc n - 1 ≡ n
    o = omega arith

positive : (a b : ℕ) → 0 < a → 0 < b → suc (a * b - 1) ≡ a * b
positive a b p q = let m : 0 < a * b = mul-pos p q in omega arith

module _ (k u : ℕ) (w : Allowed) (up : 0 < u) (h : 2 ^ (k - 1) + 2 ^ (k - 1) ≡ 2 ^ k) where
  pub signed_back : (n : ℤ) → number_ok (Some (Signed k u w)) n ≡ true → number_of (Some (Signed k u w)) (raw_number (Some (Signed k u w)) n) ≡ n
  signed_back (pos n) t =
      let e : n % u ≡ 0 = grind (arith, nat_tests) in
      let l : n / u < 2 ^ (k - 1) = grind (arith, nat_tests) in
      subst (λ x. cond (ltb (n / u) (2 ^ (k - 1))) (pos (n / u * u)) (negsuc ((x - n / u) * u - 1)) ≡ pos n) h (back_low (n / u) u (2 ^ (k - 1)) n l (quot n u e))
  signed_back (negsuc n) t =
      let e : suc n % u ≡ 0 = grind (arith, nat_tests) in
      let l : suc n / u ≤ 2 ^ (k - 1) = grind (arith, nat_tests) in
      let q = quot (suc n) u e in
      subst (λ x. cond (ltb (x - suc n / u) (2 ^ (k - 1))) (pos ((x - suc n / u) * u)) (negsuc ((x - (x - suc n / u)) * u - 1)) ≡ negsuc n) h (back_high (suc n / u) u (2 ^ (k - 1)) n (some n u (suc n / u) q) l q)

  pub signed_forth : (x : ℕ) → x < 2 ^ k → raw_number (Some (Signed k u w)) (number_of (Some (Signed k u w)) x) ≡ x
  signed_forth x l = go (ltb x (2 ^ (k - 1))) refl
    where
      go : (b : Bool) → ltb x (2 ^ (k - 1)) ≡ b → raw_number (Some (Signed k u w)) (cond b (pos (x * u)) (negsuc ((2 ^ k - x) * u - 1))) ≡ x
      go true e = mul-div_cancel x up
      go false e =
          let p : 0 < 2 ^ k - x = omega arith in
          let s : suc ((2 ^ k - x) * u - 1) ≡ (2 ^ k - x) * u = positive (2 ^ k - x) u p up in
          ap (λ y. 2 ^ k - y / u) s ∙ ap (λ y. 2 ^ k - y) (mul-div_cancel (2 ^ k - x) up) ∙ omega arith

number_back : (c : Option Number) (n : ℤ) → Workable c → Halved c → idle c n ≡ true → number_ok c n ≡ true → number_of c (raw_number c n) ≡ n
number_back None n w h i t = zero_int n i
number_back (Some (Signed k u a)) n w h i t = signed_back k u a w.some h n t
number_back (Some (Unsigned k u a)) (pos n) w h i t = ap pos (quot n u (let e : n % u ≡ 0 = grind (arith, nat_tests) in e))
number_back (Some (Unsigned k u a)) (negsuc n) w h i t = absurd (false≢true t)

number_forth : (c : Option Number) (x : ℕ) → Workable c → Halved c → x < 2 ^ number_width c → raw_number c (number_of c x) ≡ x
number_forth None x w h l = omega arith
number_forth (Some (Signed k u a)) x w h l = signed_forth k u a w.some h x l
number_forth (Some (Unsigned k u a)) x w h l = mul-div_cancel x w.some

-- ---- registers and the mask bit

reg_back : (u : Option Use) (x : ℤ) → idle u x ≡ true → reg_ok u x ≡ true → reg_of u (raw_reg u x) ≡ x
reg_back None x i t = zero_int x i
reg_back (Some (Full c e)) (pos x) i t = refl
reg_back (Some (Full c e)) (negsuc x) i t = absurd (false≢true t)
reg_back (Some (Short c)) (pos x) i t = ap pos (let e : x - 8 + 8 ≡ x = grind (arith, nat_tests) in e)
reg_back (Some (Short c)) (negsuc x) i t = absurd (false≢true t)

reg_forth : (u : Option Use) (x : ℕ) → x < 2 ^ reg_width u → raw_reg u (reg_of u x) ≡ x
reg_forth None x h = omega arith
reg_forth (Some (Full c e)) x h = refl
reg_forth (Some (Short c)) x h = omega arith

one_back : (m : ℤ) → mask_ok (Some Free) m ≡ true → pos (1 - (1 - nat_abs m)) ≡ m
one_back (pos m) t = ap pos (let e : 1 - (1 - m) ≡ m = grind (arith, nat_tests) in e)
one_back (negsuc m) t = absurd (false≢true t)

mask_back : (u : Option Masking) (m : ℤ) → idle u m ≡ true → mask_ok u m ≡ true → mask_of u (raw_mask u m) ≡ m
mask_back None m i t = zero_int m i
mask_back (Some u) m i t = one_back m t

mask_forth : (u : Option Masking) (x : ℕ) → x < 2 ^ mask_width u → raw_mask u (mask_of u x) ≡ x
mask_forth None x h = omega arith
mask_forth (Some u) x h = omega arith

-- ---- all of them

pub fields_back : (r : Form) (f : Fields) → Agrees r → lawful r f ≡ true → fields_of r (raw r f) ≡ f
fields_back r f a t =
    let un = unused_at r f t in
    let ok = range_at r f t in
    λ i. record {
      d = reg_back r.d f.d (un 0) (ok 0) i;
      a = reg_back r.a f.a (un 1) (ok 1) i;
      b = reg_back r.b f.b (un 2) (ok 2) i;
      n = number_back r.n f.n a.works a.halves (un 3) (ok 3) i;
      m = mask_back r.m f.m (un 4) (ok 4) i;
    }

spanned : (x a b : ℕ) → a ≡ b → x < 2 ^ a → x < 2 ^ b
spanned x a b e h = subst (λ n. x < 2 ^ n) e h

pub fields_forth : (r : Form) (v : Values) → Agrees r → Fit (layout r.kind) v → r.opcode ≡ v.opcode → r.funct3 ≡ v.funct3 → r.funct ≡ v.funct → raw r (fields_of r v) ≡ v
fields_forth r v a h eo e3 ef =
    let s = layout r.kind in
    λ i. record {
      d = reg_forth r.d v.d (spanned _ (span s D) _ a.d_span (h D)) i;
      a = reg_forth r.a v.a (spanned _ (span s A) _ a.a_span (h A)) i;
      b = reg_forth r.b v.b (spanned _ (span s B) _ a.b_span (h B)) i;
      n = number_forth r.n v.n a.works a.halves (spanned _ (span s N) _ a.n_span (h N)) i;
      m = mask_forth r.m v.m (spanned _ (span s M) _ a.m_span (h M)) i;
      opcode = eo i;
      funct3 = e3 i;
      funct = ef i;
    }
