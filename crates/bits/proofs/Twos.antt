-- Two's complement at k bits, there and back.
use Rattle.std.proofs.Common.{◌≡◌, ℕ, suc, ◌+◌, ◌-◌, ◌^◌, ◌<◌, ℤ, pos, negsuc, sym, ap, ◌∙◌, mod-eq_of_lt, one-add, arith, pow-add}
use lib.Signed.{mag}
use Rattle.std.proofs.lemmas.Bool.Decides.{nat_tests}
use Rattle.bits.specs.Twos.{twos, signed}
use Rattle.bits.specs.Laws.{TwosExactAt}

pub twos-pos : (k n : ℕ) → n < 2 ^ k → twos k (pos n) ≡ n
twos-pos k n h = mod-eq_of_lt h

pub twos-neg : (k n : ℕ) → n < 2 ^ k → twos k (negsuc n) ≡ 2 ^ k - suc n
twos-neg k n h = ap (λ m. 2 ^ k - suc m) (mod-eq_of_lt h)

pub twos_lt : (k : ℕ) (z : ℤ) → mag z + mag z < 2 ^ k → twos k z < 2 ^ k
twos_lt k (pos n) h = let e = twos-pos k n (omega arith) in omega arith
twos_lt k (negsuc n) h = let e = twos-neg k n (omega arith) in omega arith

-- 2 ^ suc k is even
pub even : (k : ℕ) → 2 ^ suc k ≡ 2 ^ k + 2 ^ k
even k = ap (λ n. 2 ^ n) (sym (one-add k)) ∙ pow-add 2 1 k ∙ omega arith

pub signed-twos : (k : ℕ) (z : ℤ) → mag z + mag z < 2 ^ suc k → signed (suc k) (twos (suc k) z) ≡ z
signed-twos k (pos n) h =
    let e = twos-pos (suc k) n (omega arith) in
    ap (signed (suc k)) e ∙ grind (arith, nat_tests)
signed-twos k (negsuc n) h =
    let e = twos-neg (suc k) n (omega arith) in
    let v = even k in
    ap (signed (suc k)) e ∙ grind (arith, nat_tests)

pub twos-signed : (k n : ℕ) → n < 2 ^ k → twos k (signed k n) ≡ n
twos-signed k n h =
    let a = twos-pos k n h in
    let b = twos-neg k (2 ^ k - suc n) (omega arith) in
    grind (arith, nat_tests)

pub twos_exact : (k : ℕ) → TwosExactAt k
twos_exact k = record { back = signed-twos k; forth = twos-signed (suc k) }
