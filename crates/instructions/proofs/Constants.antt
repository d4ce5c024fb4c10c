-- A constant and its bits, in units.
use Rattle.std.proofs.Common.{◌≡◌, ℕ, zero, suc, ◌+◌, ◌-◌, ◌*◌, ◌/◌, ◌%◌, ◌^◌, ◌<◌, ◌≤◌, true, Some, None, Option, ℤ, pos, negsuc, IsTrue, ◌↔◌, Bool, false, w64, SFits, to_z, of_z, mod-eq_of_lt, sym, ap, ◌∙◌, subst, add-zero, div-add-mod', zero-mul, arith, pow_pos, pow_mono, lt_of_lt_of_le}
use lib.IntN.{neg_ℤ}
use lib.Signed.{mag, quot_z, rem_z, ◌<ℤ◌}
use Rattle.std.proofs.Math.Nat.{pow-suc}
use Rattle.std.proofs.lemmas.Bool.Decides.{nat_tests}
use Rattle.std.proofs.lemmas.Int.{ints, quot_is, quot_fits, rem_is}
use Rattle.bits.specs.Twos.{twos}
use Rattle.bits.proofs.Twos.{twos-neg}
use Rattle.operands.specs.Ranges.{Within}
use Rattle.operations.specs.declared.row.Allowed.{Allowed}
use Rattle.operations.specs.declared.row.Number.{Number}
use Rattle.operations.specs.declared.row.Number.TheVariants.{Signed, Unsigned}
use Rattle.instructions.specs.Faults.{number_ok, Workable}
use Rattle.instructions.specs.Words.{raw_number}

abbrev pub number_width : Option Number → ℕ
number_width None = 0
number_width (Some (Signed k u w)) = k
number_width (Some (Unsigned k u w)) = k

-- the two halves of a signed range
abbrev pub Halved : Option Number → Type 0
Halved None = Unit {0}
Halved (Some (Signed k u w)) = 2 ^ (k - 1) + 2 ^ (k - 1) ≡ 2 ^ k
Halved (Some (Unsigned k u w)) = Unit {0}

pub quot : (m u : ℕ) → m % u ≡ 0 → m / u * u ≡ m
quot m u e = sym (add-zero (m / u * u)) ∙ ap (λ x. m / u * u + x) (sym e) ∙ div-add-mod' m u

pub some : (n u q : ℕ) → q * u ≡ suc n → 0 < q
some n u zero e = absurd (let z = sym (zero-mul u) ∙ e in omega arith)
some n u (suc q) e = omega arith

signed_lt : (k u : ℕ) (w : Allowed) → 2 ^ (k - 1) + 2 ^ (k - 1) ≡ 2 ^ k → (n : ℤ) → number_ok (Some (Signed k u w)) n ≡ true → raw_number (Some (Signed k u w)) n < 2 ^ k
signed_lt k u w h (pos n) t = grind (arith, nat_tests)
signed_lt k u w h (negsuc n) t =
    let e : suc n % u ≡ 0 = grind (arith, nat_tests) in
    let p = some n u (suc n / u) (quot (suc n) u e) in
    let b = pow_pos k in
    omega arith

pub number_lt : (c : Option Number) (n : ℤ) → Halved c → number_ok c n ≡ true → raw_number c n < 2 ^ number_width c
number_lt None n h t = pow_pos 0
number_lt (Some (Signed k u w)) n h t = signed_lt k u w h n t
number_lt (Some (Unsigned k u w)) (pos n) h t = grind (arith, nat_tests)
number_lt (Some (Unsigned k u w)) (negsuc n) h t = grind (arith, t)

-- the two halves of a width above 0
halves : (k : ℕ) → 0 < k → 2 ^ (k - 1) + 2 ^ (k - 1) ≡ 2 ^ k
halves zero h = absurd (omega arith)
halves (suc k) h =
    let e : 2 ^ suc k ≡ 2 ^ k * 2 = pow-suc 2 k in
    let p : suc k - 1 ≡ k = omega arith in
    subst (λ j. 2 ^ j + 2 ^ j ≡ 2 ^ suc k) (sym p) (omega arith)

pub halved_of : (c : Option Number) → Workable c → Halved c
halved_of None w = tt
halved_of (Some (Signed k u a)) w = halves k w.wide
halved_of (Some (Unsigned k u a)) w = tt

width_32 : (c : Option Number) → Workable c → number_width c ≤ 32
width_32 None w = omega arith
width_32 (Some (Signed k u v)) w = let h = w.narrow in omega arith
width_32 (Some (Unsigned k u v)) w = let h = w.narrow in omega arith

pub number_32 : (c : Option Number) (n : ℤ) → Workable c → number_ok c n ≡ true → raw_number c n < 2 ^ 32
number_32 c n w t = lt_of_lt_of_le (number_lt c n (halved_of c w) t) (pow_mono (width_32 c w))

-- ---- the number in units, as the code divides

divides : (u : ℕ) (d : ℤ) → 0 < u → d ≡ pos u → pos 0 <ℤ d
divides u d p e = subst (λ d. pos 0 <ℤ d) (sym e) (omega (arith, ints))

pub quotient : (u : ℕ) (z d : ℤ) → 0 < u → SFits w64 z → SFits w64 d → d ≡ pos u → to_z w64 (of_z w64 (quot_z (to_z w64 (of_z w64 z)) (to_z w64 (of_z w64 d)))) ≡ quot_z z (pos u)
quotient u z d p f g e = quot_is w64 z d f g (quot_fits w64 z d f (divides u d p e)) ∙ ap (quot_z z) e

pub remainder : (u : ℕ) (z d : ℤ) → SFits w64 z → SFits w64 d → d ≡ pos u → of_z w64 (rem_z (to_z w64 (of_z w64 z)) (to_z w64 (of_z w64 d))) ≡ 0 → rem_z z (pos u) ≡ pos 0
remainder u z d f g e h = ap (rem_z z) (sym e) ∙ sym (rem_is w64 z d f g) ∙ ap (to_z w64) h

module _ (k u : ℕ) (w : Allowed) where
  -- a multiple of the unit is in range exactly where k bits hold it in units
  pub held_ok : (z : ℤ) (r : Bool) → rem_z z (pos u) ≡ pos 0 → (IsTrue r ↔ Within k (quot_z z (pos u))) → r ≡ number_ok (Some (Signed k u w)) z
  held_ok (pos n) true e h = let p = pow_pos (k - 1) in let a = h.0 in grind (arith, nat_tests, ints)
  held_ok (pos n) false e h = let p = pow_pos (k - 1) in let a = h.1 in grind (arith, nat_tests, ints)
  held_ok (negsuc n) true e h = let p = pow_pos (k - 1) in let a = h.0 in grind (arith, nat_tests, ints)
  held_ok (negsuc n) false e h = let p = pow_pos (k - 1) in let a = h.1 in grind (arith, nat_tests, ints)

  pub near : (z : ℤ) → 0 < k → number_ok (Some (Signed k u w)) z ≡ true → mag (quot_z z (pos u)) + mag (quot_z z (pos u)) < 2 ^ k
  near (pos n) l t = let p = halves k l in grind (arith, nat_tests, ints)
  near (negsuc n) l t = let p = halves k l in grind (arith, nat_tests, ints)

  pub twos_of : (z : ℤ) → 0 < k → number_ok (Some (Signed k u w)) z ≡ true → twos k (quot_z z (pos u)) ≡ raw_number (Some (Signed k u w)) z
  twos_of (pos n) l t = mod-eq_of_lt (let p = near (pos n) l t in omega arith)
  twos_of (negsuc n) l t =
      let e : suc n % u ≡ 0 = grind (arith, nat_tests) in
      let q = some n u (suc n / u) (quot (suc n) u e) in
      let p = near (negsuc n) l t in
      let s : neg_ℤ (pos (suc n / u)) ≡ negsuc (suc n / u - 1) = grind (arith, ints) in
      ap (twos k) s ∙ twos-neg k (suc n / u - 1) (grind (arith, ints)) ∙ omega arith
