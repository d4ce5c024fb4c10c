-- Fields have no fault exactly when they are lawful.
use Rattle.std.proofs.Common.{◌≡◌, ℕ, suc, Bool, true, false, not, ◌&&◌, ◌||◌, eqb, ◌⊎◌, Some, None, Option, ℤ, pos, negsuc, nat_abs, refl, ap, ap₂, inl, inr, arith}
use Rattle.std.proofs.lemmas.Bool.{false≢true, eqb-true, eq-eqb, and_parts, and_from}
use Rattle.std.proofs.lemmas.Bool.Decides.{nat_tests}
use Rattle.operations.specs.declared.row.Except.TheVariants.{Nothing, Zero, ZeroAndTwo}
use Rattle.operations.specs.declared.row.Allowed.{Allowed}
use Rattle.operations.specs.declared.row.Allowed.TheVariants.{All, NonZero, GroupSize}
use Rattle.operations.specs.declared.row.Use.{Use}
use Rattle.operations.specs.declared.row.Use.TheVariants.{Full, Short}
use Rattle.operations.specs.declared.row.Number.{Number}
use Rattle.operations.specs.declared.row.Number.TheVariants.{Signed, Unsigned}
use Rattle.operations.specs.declared.row.Masking.{Masking}
use Rattle.operations.specs.declared.row.Masking.TheVariants.{Free, Always, Never}
use Rattle.operations.specs.declared.row.Form.{Form}
use Rattle.operations.specs.Permitted.{allows}
use Rattle.instructions.specs.declared.fields.Fields.{Fields}
use Rattle.instructions.specs.Faults.{idle, reg_ok, number_ok, mask_ok, mask_rule, taken, taken_number, vectored, unlike, unused_checks, range_checks, rule_checks, overlap_checks, or_else, is_none, lawful}
use Rattle.instructions.specs.Laws.{InUse, InRange, InMask, Takes, Allows, TakesNumber, Lawful, LawfulExactly}
use Rattle.instructions.proofs.Checks.{none_of, unused_at, range_at, rule_at, overlap_at}

zero_int : (z : ℤ) → eqb (nat_abs z) 0 ≡ true → z ≡ pos 0
zero_int (pos n) t = ap pos (let e : n ≡ 0 = grind (arith, nat_tests) in e)
zero_int (negsuc n) t = absurd (let e : suc n ≡ 0 = grind (arith, nat_tests) in omega arith)

reg_in : (u : Option Use) (x : ℤ) → idle u x ≡ true → reg_ok u x ≡ true → InUse u x
reg_in None x i t = zero_int x i
reg_in (Some (Full c e)) (pos x) i t = grind (arith, nat_tests)
reg_in (Some (Full c e)) (negsuc x) i t = false≢true t
reg_in (Some (Short c)) (pos x) i t = (grind (arith, nat_tests), grind (arith, nat_tests))
reg_in (Some (Short c)) (negsuc x) i t = false≢true t

number_in : (u : Option Number) (n : ℤ) → idle u n ≡ true → number_ok u n ≡ true → InRange u n
number_in None n i t = zero_int n i
number_in (Some (Signed k v w)) (pos n) i t = (grind (arith, nat_tests), grind (arith, nat_tests))
number_in (Some (Signed k v w)) (negsuc n) i t = (grind (arith, nat_tests), grind (arith, nat_tests))
number_in (Some (Unsigned k v w)) (pos n) i t = (grind (arith, nat_tests), grind (arith, nat_tests))
number_in (Some (Unsigned k v w)) (negsuc n) i t = false≢true t

one_int : (m : ℤ) → mask_ok (Some Always) m ≡ true → eqb (nat_abs m) 1 ≡ true → m ≡ pos 1
one_int (pos m) t r = ap pos (let e : m ≡ 1 = grind (arith, nat_tests) in e)
one_int (negsuc m) t r = absurd (false≢true t)

mask_in : (u : Option Masking) (m : ℤ) → idle u m ≡ true → mask_ok u m ≡ true → mask_rule u m ≡ true → InMask u m
mask_in None m i t r = zero_int m i
mask_in (Some Free) (pos m) i t r = grind (arith, nat_tests)
mask_in (Some Free) (negsuc m) i t r = false≢true t
mask_in (Some Always) m i t r = one_int m t r
mask_in (Some Never) m i t r = zero_int m r

no_zero : (x : ℤ) (k : ℕ) → not (eqb (nat_abs x) k) ≡ true → x ≡ pos k → ⊥
no_zero x k t e =
    let z : nat_abs x ≡ k = ap nat_abs e in
    let q : ◌≡◌ {A = ℕ} 0 1 = grind (arith, nat_tests) in
    omega arith

takes : (u : Option Use) (x : ℤ) → taken u x ≡ true → Takes u x
takes None x t = tt
takes (Some (Full c Nothing)) x t = tt
takes (Some (Full c Zero)) x t = no_zero x 0 t
takes (Some (Full c ZeroAndTwo)) x t = let z = and_parts (not (eqb (nat_abs x) 0)) (not (eqb (nat_abs x) 2)) t in (no_zero x 0 z.0, no_zero x 2 z.1)
takes (Some (Short c)) x t = tt

-- one of four, by tests
of_four : (n : ℕ) → (eqb n 0 || (eqb n 1 || (eqb n 3 || eqb n 7))) ≡ true → (n ≡ 0) ⊎ ((n ≡ 1) ⊎ ((n ≡ 3) ⊎ (n ≡ 7)))
of_four n t = go (eqb n 0) refl (eqb n 1) refl (eqb n 3) refl t
  where
    go : (a : Bool) → eqb n 0 ≡ a → (b : Bool) → eqb n 1 ≡ b → (c : Bool) → eqb n 3 ≡ c → (a || (b || (c || eqb n 7))) ≡ true → (n ≡ 0) ⊎ ((n ≡ 1) ⊎ ((n ≡ 3) ⊎ (n ≡ 7)))
    go true ea b eb c ec t = inl (eqb-true n 0 ea)
    go false ea true eb c ec t = inr (inl (eqb-true n 1 eb))
    go false ea false eb true ec t = inr (inr (inl (eqb-true n 3 ec)))
    go false ea false eb false ec t = inr (inr (inr (eqb-true n 7 t)))

four_pos : (n : ℕ) → (n ≡ 0) ⊎ ((n ≡ 1) ⊎ ((n ≡ 3) ⊎ (n ≡ 7))) → Allows GroupSize (pos n)
four_pos n (inl e) = inl (ap pos e)
four_pos n (inr (inl e)) = inr (inl (ap pos e))
four_pos n (inr (inr (inl e))) = inr (inr (inl (ap pos e)))
four_pos n (inr (inr (inr e))) = inr (inr (inr (ap pos e)))

takes_allowed : (w : Allowed) (n : ℤ) → allows w n ≡ true → Allows w n
takes_allowed All n t = tt
takes_allowed NonZero n t = no_zero n 0 t
takes_allowed GroupSize (pos n) t = four_pos n (of_four n t)
takes_allowed GroupSize (negsuc n) t = absurd (false≢true t)

takes_number : (u : Option Number) (n : ℤ) → taken_number u n ≡ true → TakesNumber u n
takes_number None n t = tt
takes_number (Some (Signed k v w)) n t = takes_allowed w n t
takes_number (Some (Unsigned k v w)) n t = takes_allowed w n t

never : (b : Bool) (x : ℤ) (y : ℕ) → unlike b x y ≡ true → b ≡ true → nat_abs x ≡ y → ⊥
never true x y u t e = let q : ◌≡◌ {A = ℕ} 0 1 = grind (arith, nat_tests) in omega arith
never false x y u t e = false≢true t

forth : (r : Form) (f : Fields) → lawful r f ≡ true → Lawful r f
forth r f t =
    let un = unused_at r f t in
    let ok = range_at r f t in
    let ru = rule_at r f t in
    let ov = overlap_at r f t in
    record {
      d_in = reg_in r.d f.d (un 0) (ok 0);
      a_in = reg_in r.a f.a (un 1) (ok 1);
      b_in = reg_in r.b f.b (un 2) (ok 2);
      n_in = number_in r.n f.n (un 3) (ok 3);
      m_in = mask_in r.m f.m (un 4) (ok 4) (ru 4);
      d_takes = takes r.d f.d (ru 0);
      a_takes = takes r.a f.a (ru 1);
      b_takes = takes r.b f.b (ru 2);
      n_takes = takes_number r.n f.n (ru 3);
      d_not_b = never r.forbids.sources f.d (nat_abs f.b) (ov 0);
      d_not_a = λ p q. never (r.forbids.sources && vectored r.a) f.d (nat_abs f.a) (ov 1) (and_from r.forbids.sources (vectored r.a) p q);
      d_not_v0 = λ p q. never (r.forbids.mask && eqb (nat_abs f.m) 1) f.d 0 (ov 2) (and_from r.forbids.mask (eqb (nat_abs f.m) 1) p (eq-eqb (nat_abs f.m) 1 q));
    }

idle_of : (u : Option Use) (x : ℤ) → InUse u x → idle u x ≡ true
idle_of None x h = ap (λ z. eqb (nat_abs z) 0) h
idle_of (Some u) x h = refl

reg_of : (u : Option Use) (x : ℤ) → InUse u x → reg_ok u x ≡ true
reg_of None x h = refl
reg_of (Some (Full c e)) (pos x) h = grind (arith, nat_tests)
reg_of (Some (Full c e)) (negsuc x) h = absurd h
reg_of (Some (Short c)) (pos x) h = grind (arith, nat_tests)
reg_of (Some (Short c)) (negsuc x) h = absurd h

idle_number_of : (u : Option Number) (n : ℤ) → InRange u n → idle u n ≡ true
idle_number_of None n h = ap (λ z. eqb (nat_abs z) 0) h
idle_number_of (Some u) n h = refl

number_of : (u : Option Number) (n : ℤ) → InRange u n → number_ok u n ≡ true
number_of None n h = refl
number_of (Some (Signed k v w)) (pos n) h = grind (arith, nat_tests)
number_of (Some (Signed k v w)) (negsuc n) h = grind (arith, nat_tests)
number_of (Some (Unsigned k v w)) (pos n) h = grind (arith, nat_tests)
number_of (Some (Unsigned k v w)) (negsuc n) h = absurd h

idle_mask_of : (u : Option Masking) (m : ℤ) → InMask u m → idle u m ≡ true
idle_mask_of None m h = ap (λ z. eqb (nat_abs z) 0) h
idle_mask_of (Some u) m h = refl

mask_of : (u : Option Masking) (m : ℤ) → InMask u m → mask_ok u m ≡ true
mask_of None m h = refl
mask_of (Some Free) (pos m) h = grind (arith, nat_tests)
mask_of (Some Free) (negsuc m) h = absurd h
mask_of (Some Always) m h = ap (mask_ok (Some Always)) h
mask_of (Some Never) m h = ap (mask_ok (Some Never)) h

rule_of : (u : Option Masking) (m : ℤ) → InMask u m → mask_rule u m ≡ true
rule_of None m h = refl
rule_of (Some Free) m h = refl
rule_of (Some Always) m h = ap (mask_rule (Some Always)) h
rule_of (Some Never) m h = ap (mask_rule (Some Never)) h

not_is : (a b : ℕ) → (a ≡ b → ⊥) → not (eqb a b) ≡ true
not_is a b h = grind (arith, nat_tests)

taken_of : (u : Option Use) (x : ℤ) → InUse u x → Takes u x → taken u x ≡ true
taken_of None x i h = refl
taken_of (Some (Full c Nothing)) x i h = refl
taken_of (Some (Full c Zero)) (pos x) i h = not_is x 0 (λ e. h (ap pos e))
taken_of (Some (Full c Zero)) (negsuc x) i h = absurd i
taken_of (Some (Full c ZeroAndTwo)) (pos x) i h = and_from _ _ (not_is x 0 (λ e. h.0 (ap pos e))) (not_is x 2 (λ e. h.1 (ap pos e)))
taken_of (Some (Full c ZeroAndTwo)) (negsuc x) i h = absurd i
taken_of (Some (Short c)) x i h = refl

group_of : (n : ℤ) → Allows GroupSize n → allows GroupSize n ≡ true
group_of n (inl e) = ap (allows GroupSize) e
group_of n (inr (inl e)) = ap (allows GroupSize) e
group_of n (inr (inr (inl e))) = ap (allows GroupSize) e
group_of n (inr (inr (inr e))) = ap (allows GroupSize) e

allowed_of : (w : Allowed) (n : ℤ) → Allows w n → allows w n ≡ true
allowed_of All n h = refl
allowed_of NonZero (pos n) h = not_is n 0 (λ e. h (ap pos e))
allowed_of NonZero (negsuc n) h = not_is (suc n) 0 (λ e. omega arith)
allowed_of GroupSize n h = group_of n h

taken_number_of : (u : Option Number) (n : ℤ) → TakesNumber u n → taken_number u n ≡ true
taken_number_of None n h = refl
taken_number_of (Some (Signed k v w)) n h = allowed_of w n h
taken_number_of (Some (Unsigned k v w)) n h = allowed_of w n h

unlike_of : (b : Bool) (x : ℤ) (y : ℕ) → (b ≡ true → nat_abs x ≡ y → ⊥) → unlike b x y ≡ true
unlike_of true x y h = not_is (nat_abs x) y (h refl)
unlike_of false x y h = refl

back : (r : Form) (f : Fields) → Lawful r f → lawful r f ≡ true
back r f l =
    let u = none_of (unused_checks r f)
    (and_from _ _ (idle_of r.d f.d l.d_in)
    (and_from _ _ (idle_of r.a f.a l.a_in)
    (and_from _ _ (idle_of r.b f.b l.b_in)
    (and_from _ _ (idle_number_of r.n f.n l.n_in)
    (and_from _ _ (idle_mask_of r.m f.m l.m_in) refl))))) in
    let o = none_of (range_checks r f)
    (and_from _ _ (reg_of r.d f.d l.d_in)
    (and_from _ _ (reg_of r.a f.a l.a_in)
    (and_from _ _ (reg_of r.b f.b l.b_in)
    (and_from _ _ (number_of r.n f.n l.n_in)
    (and_from _ _ (mask_of r.m f.m l.m_in) refl))))) in
    let w = none_of (rule_checks r f)
    (and_from _ _ (taken_of r.d f.d l.d_in l.d_takes)
    (and_from _ _ (taken_of r.a f.a l.a_in l.a_takes)
    (and_from _ _ (taken_of r.b f.b l.b_in l.b_takes)
    (and_from _ _ (taken_number_of r.n f.n l.n_takes)
    (and_from _ _ (rule_of r.m f.m l.m_in) refl))))) in
    let s = r.forbids.sources in
    let v = none_of (overlap_checks r f)
    (and_from _ _ (unlike_of s f.d (nat_abs f.b) l.d_not_b)
    (and_from _ _ (unlike_of (s && vectored r.a) f.d (nat_abs f.a) (λ t. let z = and_parts s (vectored r.a) t in l.d_not_a z.0 z.1))
    (and_from _ _ (unlike_of (r.forbids.mask && eqb (nat_abs f.m) 1) f.d 0 (λ t. let z = and_parts r.forbids.mask (eqb (nat_abs f.m) 1) t in l.d_not_v0 z.0 (eqb-true (nat_abs f.m) 1 z.1))) refl))) in
    ap is_none (ap₂ or_else u (ap₂ or_else o (ap₂ or_else w v)))

pub lawful_exactly : LawfulExactly
lawful_exactly r f = (forth r f, back r f)
