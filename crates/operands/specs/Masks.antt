-- Whether a vector operation is masked, and the bit of its word that tells it: 0 when it is.
use Rattle.std.specs.Prelude.{ℕ, Bool, true, false}
use Rattle.operands.specs.declared.masking.VecOpMasking.{VecOpMasking}
use Rattle.operands.specs.declared.masking.VecOpMasking.TheVariants.{Enabled, Disabled}

abbrev pub mask_bit : VecOpMasking → ℕ
mask_bit Enabled = 0
mask_bit Disabled = 1

abbrev pub masked : VecOpMasking → Bool
masked Enabled = true
masked Disabled = false
