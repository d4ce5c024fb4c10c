-- Hexadecimal digits.
use Rattle.std.proofs.Common.{◌≡◌, ℕ, zero, suc, ◌+◌, ◌/◌, ◌%◌, ◌^◌, [], ◌∷◌, ◌++◌, length, sym, refl, ap, ◌∙◌, pow-suc, div-one, mul_comm, add-one}
use native.Mathlib.Nat.{div-div-eq-div-mul}
use Rattle.text.specs.Written.{hex, hex_digit}

-- as many digits as the width
pub length-hex : (k n : ℕ) → length (hex k n) ≡ k
length-hex zero n = refl
length-hex (suc k) n = ap suc (length-hex k n)

-- a sixteenth, and then a power
sixteenth : (k n : ℕ) → n / 16 ^ suc k ≡ n / 16 / 16 ^ k
sixteenth k n = ap (λ m. n / m) (pow-suc 16 k ∙ mul_comm (16 ^ k) 16) ∙ sym (div-div-eq-div-mul n 16 (16 ^ k))

-- the last digit comes behind those of the sixteenth
hex_more : (k n : ℕ) → hex k (n / 16) ++ (hex_digit (n % 16) ∷ []) ≡ hex (suc k) n
hex_more zero n = ap (λ m. hex_digit (m % 16) ∷ []) (sym (div-one n))
hex_more (suc k) n = ap (λ r. hex_digit (n / 16 / 16 ^ k % 16) ∷ r) (hex_more k n) ∙ ap (λ m. hex_digit (m % 16) ∷ hex (suc k) n) (sym (sixteenth k n))

pub hex_last : (k width n : ℕ) → k + 1 ≡ width → hex k (n / 16) ++ (hex_digit (n % 16) ∷ []) ≡ hex width n
hex_last k width n e = hex_more k n ∙ ap (λ j. hex j n) (sym (add-one k) ∙ e)
