-- Ranges and bits at any width.
use Rattle.std.proofs.Common.{◌≡◌, ℕ, zero, suc, ◌+◌, ◌-◌, ◌*◌, ◌%◌, ◌^◌, ◌<◌, ◌≤◌, ℤ, pos, negsuc, ◌*ℤ◌, ◌≤ℤ◌, sym, ap, ◌∙◌, subst, arith, pow_pos, pow_mono}
use lib.Signed.{mag}
use Rattle.std.proofs.lemmas.Bool.Decides.{nat_tests}
use Rattle.std.proofs.lemmas.Int.{ints}
use Rattle.bits.specs.Twos.{twos, signed}
use Rattle.bits.proofs.Twos.{twos-pos, twos-neg, twos_lt, even, signed-twos, twos-signed}
use Rattle.operands.specs.Ranges.{Within, Even, Reach, halved}

-- ---- signed numbers

doubled : (k : ℕ) → 2 ^ suc k ≡ 2 ^ (suc k - 1) + 2 ^ (suc k - 1)
doubled k = let p : k ≡ suc k - 1 = omega arith in subst (λ j. 2 ^ suc k ≡ 2 ^ j + 2 ^ j) p (even k)

pub near : (k : ℕ) (z : ℤ) → Within k z → mag z + mag z < 2 ^ k
near zero (pos n) h = grind (arith, nat_tests, ints, h)
near zero (negsuc n) h = grind (arith, nat_tests, ints, h)
near (suc k) (pos n) h = let p = pow_pos (suc k - 1) in let e = doubled k in grind (arith, nat_tests, ints, h)
near (suc k) (negsuc n) h = let p = pow_pos (suc k - 1) in let e = doubled k in grind (arith, nat_tests, ints, h)

pub near_within : (k : ℕ) (z : ℤ) → mag z + mag z < 2 ^ k → Within k z
near_within zero (pos n) h = grind (arith, nat_tests, ints)
near_within zero (negsuc n) h = grind (arith, nat_tests, ints)
near_within (suc k) (pos n) h = let p = pow_pos (suc k - 1) in let e = doubled k in grind (arith, nat_tests, ints)
near_within (suc k) (negsuc n) h = let p = pow_pos (suc k - 1) in let e = doubled k in grind (arith, nat_tests, ints)

pub near_low : (k : ℕ) (z : ℤ) → 2 * mag z < 2 ^ k → negsuc (2 ^ (k - 1) - 1) ≤ℤ z
near_low k z h = (near_within k z (omega arith)).0

pub near_high : (k : ℕ) (z : ℤ) → 2 * mag z < 2 ^ k → z ≤ℤ pos (2 ^ (k - 1) - 1)
near_high k z h = (near_within k z (omega arith)).1

-- past 63 bits
pub beyond : (k : ℕ) → 63 < k → 18446744073709551616 ≤ 2 ^ k
beyond k h = pow_mono {i = 64} {j = k} h

pub within : (k n : ℕ) → n < 2 ^ k → Within k (signed k n)
within zero n h = grind (arith, nat_tests, ints)
within (suc k) n h = let p = pow_pos (suc k - 1) in let e = doubled k in grind (arith, nat_tests, ints)

-- 64 bits and more hold each number of 64 bits
pub wide : (k : ℕ) (z : ℤ) → mag z < 2 ^ 63 → 63 < k → Within k z
wide k z f h = let p = pow_mono {i = 64} {j = k} h in near_within k z (omega arith)

pub one_number : (k : ℕ) (a b : ℤ) → 0 < k → Within k a → Within k b → twos k a ≡ twos k b → a ≡ b
one_number zero a b h ha hb e = absurd (omega arith)
one_number (suc k) a b h ha hb e =
    sym (signed-twos k a (near (suc k) a ha)) ∙ ap (signed (suc k)) e ∙ signed-twos k b (near (suc k) b hb)

-- ---- even numbers

pub reach_near : (k : ℕ) (z : ℤ) → Reach k z → mag z + mag z < 2 ^ suc k
reach_near k (pos n) h = let p = pow_pos k in let e = even k in let a = h.0 in let b = h.1 in grind (arith, nat_tests, ints)
reach_near k (negsuc n) h = let p = pow_pos k in let e = even k in let a = h.0 in let b = h.1 in grind (arith, nat_tests, ints)

pub reach_below : (k : ℕ) (z : ℤ) → Reach k z → mag z < 2 ^ k
reach_below k z h = let n = reach_near k z h in let e = even k in omega arith

pub halved_lt : (k : ℕ) (z : ℤ) → Reach k z → halved k z < 2 ^ k
halved_lt k z h = let l = twos_lt (suc k) z (reach_near k z h) in let e = even k in omega arith

-- an even number's two's complement is even
even_twos : (k : ℕ) (z : ℤ) → Reach k z → twos (suc k) z % 2 ≡ 0
even_twos k (pos n) h = let t = twos-pos (suc k) n (let m = reach_near k (pos n) h in omega arith) in let v = h.2 in omega arith
even_twos k (negsuc n) h =
    let m = reach_near k (negsuc n) h in
    let t = twos-neg (suc k) n (omega arith) in
    let e = even k in
    let v = h.2 in
    omega arith

pub one_distance : (k : ℕ) (a b : ℤ) → Reach k a → Reach k b → halved k a ≡ halved k b → a ≡ b
one_distance k a b ha hb e =
    let x = even_twos k a ha in
    let y = even_twos k b hb in
    let t : twos (suc k) a ≡ twos (suc k) b = omega arith in
    sym (signed-twos k a (reach_near k a ha)) ∙ ap (signed (suc k)) t ∙ signed-twos k b (reach_near k b hb)

-- twice the number of the bits n
pub twice : (k n : ℕ) → n < 2 ^ k → pos 2 *ℤ signed k n ≡ signed (suc k) (2 * n)
twice k n h = let e = even k in grind (arith, nat_tests, ints)

pub in_reach : (k n : ℕ) → n < 2 ^ k → Reach k (pos 2 *ℤ signed k n)
in_reach zero n h = grind (arith, nat_tests, ints)
in_reach (suc k) n h = let p = pow_pos k in let e = even k in grind (arith, nat_tests, ints)

pub halved_twice : (k n : ℕ) → n < 2 ^ k → halved k (pos 2 *ℤ signed k n) ≡ n
halved_twice k n h =
    let e = even k in
    let t = twos-signed (suc k) (2 * n) (omega arith) in
    ap (halved k) (twice k n h) ∙ omega arith

pub near_reach : (k : ℕ) (z : ℤ) → mag z < 2 ^ k → Even z → Reach k z
near_reach zero (pos n) h v = grind (arith, nat_tests, ints)
near_reach zero (negsuc n) h v = grind (arith, nat_tests, ints)
near_reach (suc k) (pos n) h v = let p = pow_pos k in let e = even k in grind (arith, nat_tests, ints)
near_reach (suc k) (negsuc n) h v = let p = pow_pos k in let e = even k in grind (arith, nat_tests, ints)

-- 63 bits and more hold the half of each even number of 64 bits
pub far_reach : (k : ℕ) (z : ℤ) → mag z < 2 ^ 63 → 62 < k → Even z → Reach k z
far_reach k z f h v = let p = pow_mono {i = 63} {j = k} h in near_reach k z (omega arith) v
