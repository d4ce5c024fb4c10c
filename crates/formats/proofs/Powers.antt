-- Powers of two. Assumes nothing.
use Rattle.std.proofs.Common.{◌≡◌, ℕ, ◌-◌, ◌*◌, ◌%◌, ◌^◌, ◌<◌, pos, ◌-ℤ◌, w64, to_z, of_z, pow_mono, rules}

-- 2 less than a power, as 64 bits compute it
pub less_two : (k : ℕ) → 0 < k → k < 32 → to_z w64 (of_z w64 (to_z w64 (1 * 2 ^ k % 18446744073709551616) -ℤ pos 2)) ≡ pos (2 ^ k - 2)
less_two k h s =
    let two = pow_mono {i = 1} {j = k} h in
    search rules
