-- A field shifted to its place, and the low bits of a word. Assumes nothing.
use Rattle.std.proofs.Common.{◌≡◌, ℕ, ◌+◌, ◌-◌, ◌*◌, ◌/◌, ◌%◌, ◌^◌, ◌<◌, ◌≤◌, ap, ◌∙◌, arith, shl_exact}
use lib.Bits.{bit_and, bit_or, and_mask, or_shifted_r}
use Rattle.std.proofs.lemmas.Nat.{one_shl}

-- under ones a word keeps its low bits
pub low_bits : (word width : ℕ) → width < 32 → bit_and word (1 * 2 ^ width % 4294967296 - 1) ≡ word % 2 ^ width
low_bits word width h = ap (λ m. bit_and word (m - 1)) (one_shl width 32 h) ∙ and_mask word width

-- a value above a word that ends where it begins
pub above : (word value at width : ℕ) → word < 2 ^ at → value < 2 ^ width → at + width ≤ 32 → bit_or word (value * 2 ^ at % 4294967296) ≡ value * 2 ^ at + word
above word value at width b n h = ap (bit_or word) (shl_exact width at 32 n (omega arith)) ∙ or_shifted_r value at word b
