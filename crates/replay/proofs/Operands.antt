-- The numbers that a width holds.
use Rattle.std.proofs.Common.{◌≡◌, ℕ, ◌-◌, ◌^◌, ◌<◌, Bool, true, false, cond, ltb, ℤ, pos, negsuc, Some, None, refl, ap, arith, pow_pos}
use Rattle.std.proofs.lemmas.Bool.Decides.{nat_tests}
use Rattle.std.proofs.lemmas.Int.{ints}
use Rattle.operands.specs.Ranges.{Within}
use Rattle.replay.specs.Operands.{within}

pub inside : (k : ℕ) (z : ℤ) → Within k z → within (2 ^ (k - 1)) z ≡ Some z
inside k (pos n) h =
    let p = pow_pos (k - 1) in
    let t : n < 2 ^ (k - 1) = omega (arith, ints, h.1) in
    let e : ltb n (2 ^ (k - 1)) ≡ true = grind (arith, nat_tests) in
    ap (λ b. cond b (Some (pos n)) None) e
inside k (negsuc n) h =
    let p = pow_pos (k - 1) in
    let t : n < 2 ^ (k - 1) = omega (arith, ints, h.0) in
    let e : ltb n (2 ^ (k - 1)) ≡ true = grind (arith, nat_tests) in
    ap (λ b. cond b (Some (negsuc n)) None) e

pub outside : (k : ℕ) (z : ℤ) → (Within k z → ⊥) → within (2 ^ (k - 1)) z ≡ None
outside k (pos n) h = go (ltb n (2 ^ (k - 1))) refl
  where
    go : (b : Bool) → ltb n (2 ^ (k - 1)) ≡ b → within (2 ^ (k - 1)) (pos n) ≡ None
    go true e = let p = pow_pos (k - 1) in let t : n < 2 ^ (k - 1) = grind (arith, nat_tests) in absurd (h (omega (arith, ints), omega (arith, ints)))
    go false e = ap (λ b. cond b (Some (pos n)) None) e
outside k (negsuc n) h = go (ltb n (2 ^ (k - 1))) refl
  where
    go : (b : Bool) → ltb n (2 ^ (k - 1)) ≡ b → within (2 ^ (k - 1)) (negsuc n) ≡ None
    go true e = let p = pow_pos (k - 1) in let t : n < 2 ^ (k - 1) = grind (arith, nat_tests) in absurd (h (omega (arith, ints), omega (arith, ints)))
    go false e = ap (λ b. cond b (Some (negsuc n)) None) e
