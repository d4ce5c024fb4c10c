-- A number's high and low part.
use Rattle.std.proofs.Common.{◌≡◌, ℕ, suc, ◌+◌, ◌-◌, ◌/◌, ◌%◌, ◌^◌, ◌<◌, ◌≤◌, Bool, true, false, cond, ltb, ℤ, pos, negsuc, ◌+ℤ◌, ◌-ℤ◌, ◌*ℤ◌, nat_abs, sym, refl, ◌∙◌, subst, ap₂, arith}
use Rattle.std.proofs.lemmas.Bool.Decides.{nat_tests}
use Rattle.std.proofs.lemmas.Int.{ints}
use Rattle.bits.specs.Twos.{twos, signed}
use Rattle.operands.specs.Ranges.{Within12, Within20, Makeable, made}
use Rattle.pairs.specs.Pairs.{makeable, low_of, high_of, PairMakesAt, PairMakes}

pub makeable_yes : (v : ℤ) → makeable v ≡ true → Makeable v
makeable_yes v t = (grind (arith, ints, nat_tests), grind (arith, ints, nat_tests))

made_makeable : (h l : ℤ) → Within20 h → Within12 l → makeable (made h l) ≡ true
made_makeable h l wh wl = grind (arith, ints, nat_tests)

-- ---- one pair

-- bits read as signed, by their highest bit
pub signed_is : (k x : ℕ) (z : ℤ) → (x + x < 2 ^ k → pos x ≡ z) → (2 ^ k ≤ x + x → negsuc (2 ^ k - suc x) ≡ z) → signed k x ≡ z
signed_is k x z low high = go (ltb (x + x) (2 ^ k)) refl
  where
    go : (b : Bool) → ltb (x + x) (2 ^ k) ≡ b → cond b (pos x) (negsuc (2 ^ k - suc x)) ≡ z
    go true t = low (grind (arith, nat_tests))
    go false t = high (grind (arith, nat_tests))

low_one : (v h l : ℤ) → Within12 l → made h l ≡ v → low_of v ≡ l
low_one (pos n) h l w e = signed_is 12 (n % 4096) l (λ s. omega (arith, ints)) (λ s. omega (arith, ints))
low_one (negsuc n) h l w e = signed_is 12 (4096 - suc (n % 4096)) l (λ s. omega (arith, ints)) (λ s. omega (arith, ints))

high_bits : (u h : ℤ) → Within20 h → pos 4096 *ℤ h ≡ u → signed 20 (twos 32 u / 4096) ≡ h
high_bits (pos n) h w e =
    let m : n % 4294967296 ≡ n = omega (arith, ints) in
    signed_is 20 (n % 4294967296 / 4096) h (λ s. omega (arith, ints)) (λ s. omega (arith, ints))
high_bits (negsuc n) h w e =
    let m : n % 4294967296 ≡ n = omega (arith, ints) in
    signed_is 20 ((4294967296 - suc (n % 4294967296)) / 4096) h (λ s. omega (arith, ints)) (λ s. omega (arith, ints))

high_one : (v h l : ℤ) → Within20 h → Within12 l → made h l ≡ v → high_of v ≡ h
high_one v h l wh wl e = high_bits (v -ℤ low_of v) h wh (from v (low_of v) (low_one v h l wl e) e)
  where
    from : (v m : ℤ) → m ≡ l → made h l ≡ v → pos 4096 *ℤ h ≡ v -ℤ m
    from v m p e = omega (arith, ints)

-- ---- there is one

some : (v : ℤ) → Makeable v → (h : ℤ) × ((l : ℤ) × (Within20 h × Within12 l × (made h l ≡ v)))
some v w =
    let n : ℕ = nat_abs (v +ℤ pos 2147485696) in
    let e : v +ℤ pos 2147485696 ≡ pos n = omega (arith, ints) in
    from n e
  where
    from : (n : ℕ) → v +ℤ pos 2147485696 ≡ pos n → (h : ℤ) × ((l : ℤ) × (Within20 h × Within12 l × (made h l ≡ v)))
    from n e =
        (pos (n / 4096) -ℤ pos 524288, (pos (n % 4096) -ℤ pos 2048, ((omega (arith, ints), omega (arith, ints)), (omega (arith, ints), omega (arith, ints)), omega (arith, ints))))

makes_at : (v : ℤ) → makeable v ≡ true → PairMakesAt v
makes_at v t =
    let p = some v (makeable_yes v t) in
    let h = p.0 in
    let l = p.1.0 in
    let wh = p.1.1.0 in
    let wl = p.1.1.1 in
    let e = p.1.1.2 in
    let eh = high_one v h l wh wl e in
    let el = low_one v h l wl e in
    record {
      makes = ap₂ made eh el ∙ e;
      high_in = subst Within20 (sym eh) wh;
      low_in = subst Within12 (sym el) wl;
      only = λ g m wg wm q. (sym (high_one v g m wg wm q), sym (low_one v g m wm q));
    }

pub pair_makes : PairMakes
pair_makes = record { at = makes_at; made_is = made_makeable }
