-- The operands in the fields of a line.
use Rattle.std.specs.Prelude.{ℕ, ◌-◌, ◌^◌, cond, List, ℤ, pos, negsuc, Some, None, Option, ◌==◌, nat_le, nat_lt}
use Rattle.std.specs.Option.{option_map}
use Rattle.text.specs.Fields.{Part, field_of, text_of}
use Rattle.text.specs.Found.{found}
use Rattle.text.specs.Numbers.{value_of}
use Rattle.operands.specs.declared.masking.VecOpMasking.{VecOpMasking}
use Rattle.operands.specs.declared.masking.VecOpMasking.TheVariants.{Enabled, Disabled}

-- the text of a field
abbrev pub text_at : List ℕ → ℕ → Option (List ℕ)
text_at line k = option_map text_of (field_of line k)

-- a number from 0 to below the limit
abbrev pub natural : ℕ → ℤ → Option ℕ
natural limit (pos n) = cond (nat_lt n limit) (Some n) None
natural limit (negsuc n) = None

-- a number from minus the limit to below it
abbrev pub within : ℕ → ℤ → Option ℤ
within limit (pos n) = cond (nat_lt n limit) (Some (pos n)) None
within limit (negsuc n) = cond (nat_lt n limit) (Some (negsuc n)) None

-- what is written for a register 8 to 15
abbrev pub short : ℤ → Option ℕ
short z = found (natural 16 z) (λ n. cond (nat_le 8 n) (Some (n - 8)) None)

-- 1 when masked, else 0
abbrev pub masking : ℤ → Option VecOpMasking
masking z = found (natural 2 z) (λ m. Some (cond (m == 1) Enabled Disabled))

-- what a field's number stands for
abbrev pub counted : {A : Type 0} → (ℤ → Option A) → Part → Option A
counted meaning p = found (value_of p) meaning

-- what a field of a line stands for
abbrev pub operand_at : {A : Type 0} → List ℕ → ℕ → (Part → Option A) → Option A
operand_at line k read = found (field_of line k) read

abbrev pub natural_at : List ℕ → ℕ → ℕ → Option ℕ
natural_at line k limit = operand_at line k (counted (natural limit))

abbrev pub integer_at : List ℕ → ℕ → ℕ → Option ℤ
integer_at line k limit = operand_at line k (counted (within limit))

-- any number of signed 64 bits
abbrev pub number_at : List ℕ → ℕ → Option ℤ
number_at line k = operand_at line k (counted (λ z. Some z))

-- a plain field
abbrev pub code_at : List ℕ → ℕ → Option ℕ
code_at line k = natural_at line k (2 ^ 32)

-- a register's number
abbrev pub reg_at : List ℕ → ℕ → Option ℕ
reg_at line k = natural_at line k 32

abbrev pub short_at : List ℕ → ℕ → Option ℕ
short_at line k = operand_at line k (counted short)

abbrev pub masking_at : List ℕ → ℕ → Option VecOpMasking
masking_at line k = operand_at line k (counted masking)
