-- Registers, immediates and distances are known by their bits, and every bits of the width are some one's.
use Rattle.std.proofs.Common.{◌≡◌, ℕ, zero, suc, ◌^◌, ◌<◌, pos, ◌*ℤ◌, refl, arith, lit<}
use denote.Struct.Record.{values_one}
use denote.Param.{number}
use Rattle.bits.specs.Twos.{twos, signed}
use Rattle.bits.proofs.Twos.{twos_lt, twos-signed}
use Rattle.operands.specs.Ranges.{halved}
use Rattle.operands.specs.Masks.{mask_bit}
use Rattle.operands.specs.declared.masking.VecOpMasking.{VecOpMasking}
use Rattle.operands.specs.declared.masking.VecOpMasking.TheVariants.{Enabled, Disabled}
use Rattle.operands.proofs.Widths.{near, within, one_number, in_reach, halved_lt, one_distance, halved_twice}
use Rattle.operands.specs.declared.regs.Num.{Num}
use Rattle.operands.specs.declared.imms.Signed.{Signed}
use Rattle.operands.specs.declared.imms.Unsigned.{Unsigned}
use Rattle.operands.specs.declared.distances.Distance.{Distance}
use Rattle.operands.specs.contracts.regs.Num as Num-is
use Rattle.operands.specs.contracts.imms.Signed as Signed-is
use Rattle.operands.specs.contracts.imms.Unsigned as Unsigned-is
use Rattle.operands.specs.contracts.distances.Distance as Distance-is

-- ---- numbers without a sign

pub same_num : {k : ℕ} (a b : Num k) → a.value ≡ b.value → a ≡ b
same_num {k} a b e = values_one (Num-is.struct (number k)) (Num-is.the_propositions k) a b (λ i. (e i, tt))

pub same_unsigned : {k : ℕ} (a b : Unsigned k) → a.value ≡ b.value → a ≡ b
same_unsigned {k} a b e = values_one (Unsigned-is.struct (number k)) (Unsigned-is.the_propositions k) a b (λ i. (e i, tt))

-- ---- signed numbers

pub same_value : {k : ℕ} (a b : Signed k) → a.value ≡ b.value → a ≡ b
same_value {k} a b e = values_one (Signed-is.struct (number k)) (Signed-is.the_propositions k) a b (λ i. (e i, tt))

pub signed_lt : {k : ℕ} (a : Signed k) → twos k a.value < 2 ^ k
signed_lt {k} a = twos_lt k a.value (near k a.value a.ok)

pub same_signed : {k : ℕ} (a b : Signed k) → 0 < k → twos k a.value ≡ twos k b.value → a ≡ b
same_signed {k} a b h e = same_value a b (one_number k a.value b.value h a.ok b.ok e)

pub signed_of : (k n : ℕ) → n < 2 ^ k → Signed k
signed_of k n h = record { value = signed k n; ok = within k n h }

pub signed_of_bits : (k n : ℕ) (h : n < 2 ^ k) → twos k (signed_of k n h).value ≡ n
unfolding signed_of
signed_of_bits k n h = twos-signed k n h

-- ---- distances

pub distance_lt : {k : ℕ} (a : Distance k) → halved k a.value < 2 ^ k
distance_lt {k} a = halved_lt k a.value a.ok

pub same_distance : {k : ℕ} (a b : Distance k) → halved k a.value ≡ halved k b.value → a ≡ b
same_distance {k} a b e =
    let z = one_distance k a.value b.value a.ok b.ok e in
    values_one (Distance-is.struct (number k)) (Distance-is.the_propositions k) a b (λ i. (z i, tt))

pub distance_of : (k n : ℕ) → n < 2 ^ k → Distance k
distance_of k n h = record { value = pos 2 *ℤ signed k n; ok = in_reach k n h }

pub distance_of_bits : (k n : ℕ) (h : n < 2 ^ k) → halved k (distance_of k n h).value ≡ n
unfolding distance_of
distance_of_bits k n h = halved_twice k n h

-- ---- masking

pub mask_lt : (a : VecOpMasking) → mask_bit a < 2
mask_lt Enabled = lit< tt
mask_lt Disabled = lit< tt

pub same_mask : (a b : VecOpMasking) → mask_bit a ≡ mask_bit b → a ≡ b
same_mask Enabled Enabled e = refl
same_mask Disabled Disabled e = refl
same_mask Enabled Disabled e = absurd (omega arith)
same_mask Disabled Enabled e = absurd (omega arith)

unfoldable pub mask_of : (n : ℕ) → n < 2 → VecOpMasking
mask_of zero h = Enabled
mask_of (suc n) h = Disabled

pub mask_of_bits : (n : ℕ) (h : n < 2) → mask_bit (mask_of n h) ≡ n
unfolding mask_of
mask_of_bits zero h = refl
mask_of_bits (suc n) h = omega arith
