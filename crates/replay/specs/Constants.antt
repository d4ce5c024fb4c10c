-- What a line tells of a constant: the immediate that a constructor makes of a number, and the pair of immediates that makes a number.
use Rattle.std.specs.Prelude.{int_lt, ℕ, ◌^◌, ◌-◌, Bool, not, cond, ◌&&◌, ◌||◌, ◌==◌, List, [], ◌∷◌, ℤ, pos, negsuc, Some, None, codes, Option}
use Rattle.std.specs.Option.{option_map}
use Rattle.std.specs.Ordering.{int_eq}
use Rattle.std.specs.Str.{bytes_eq}
use Rattle.text.specs.Found.{found}
use Rattle.bits.specs.Twos.{twos, signed}
use Rattle.operands.specs.Ranges.{made}
use Rattle.replay.specs.declared.constants.Made.{Made}
use Rattle.replay.specs.declared.constants.Constructor.{Constructor}
use Rattle.replay.specs.declared.constants.Constructor.TheVariants as constructor
use Rattle.replay.specs.Operands.{natural, within, number_at, integer_at, code_at, text_at}
use Rattle.replay.specs.Names.{named_at}

abbrev pub constructors : List (List ℕ × Constructor)
constructors =
    (codes "Imm12::maybe_from_u64", constructor.Imm12FromU64) ∷
    (codes "Imm12::maybe_from_i64", constructor.Imm12FromI64) ∷
    (codes "Imm12::from_i16", constructor.Imm12FromI16) ∷
    (codes "i64::from(Imm12)", constructor.Imm12FromI16) ∷
    (codes "Imm20::maybe_from_u64", constructor.Imm20FromU64) ∷
    (codes "Imm20::maybe_from_i64", constructor.Imm20FromI64) ∷
    (codes "Imm20::from_i32", constructor.Imm20FromI32) ∷
    (codes "UImm5::maybe_from_u8", constructor.UImm5FromU8) ∷
    (codes "Imm5::maybe_from_i8", constructor.Imm5FromI8) ∷
    (codes "Imm5::from_bits", constructor.Imm5FromBits) ∷
    (codes "Imm6::maybe_from_i16", constructor.Imm6FromI16) ∷
    (codes "Imm6::maybe_from_i32", constructor.Imm6FromI32) ∷
    (codes "Imm6::maybe_from_imm12", constructor.Imm6FromImm12) ∷
    (codes "Uimm6::maybe_from_u8", constructor.Uimm6FromU8) ∷
    (codes "Uimm5::maybe_from_u8", constructor.UImm5FromU8) ∷ []

-- a number in the range of k bits with a sign, and its bits
abbrev pub signed_made : ℕ → ℤ → Option Made
signed_made k z = option_map (λ i. record { bits = twos k i; value = i }) (within (2 ^ (k - 1)) z)

-- a number in the range of k bits without a sign
abbrev pub unsigned_made : ℕ → ℤ → Option Made
unsigned_made k z = option_map (λ n. record { bits = n; value = pos n }) (natural (2 ^ k) z)

-- five bits, with the number that they write
abbrev pub bits_made : ℤ → Option Made
bits_made z = option_map (λ n. record { bits = n; value = signed 5 n }) (natural 32 z)

abbrev pub made_by : Constructor → ℤ → Option Made
made_by constructor.Imm12FromU64 z = signed_made 12 z
made_by constructor.Imm12FromI64 z = signed_made 12 z
made_by constructor.Imm12FromI16 z = signed_made 12 z
made_by constructor.Imm20FromU64 z = signed_made 20 z
made_by constructor.Imm20FromI64 z = signed_made 20 z
made_by constructor.Imm20FromI32 z = signed_made 20 z
made_by constructor.UImm5FromU8 z = unsigned_made 5 z
made_by constructor.Imm5FromI8 z = signed_made 5 z
made_by constructor.Imm5FromBits z = bits_made z
made_by constructor.Imm6FromI16 z = signed_made 6 z
made_by constructor.Imm6FromI32 z = signed_made 6 z
made_by constructor.Imm6FromImm12 z = signed_made 6 z
made_by constructor.Uimm6FromU8 z = unsigned_made 6 z

-- whether a field says that there is none: none, or that an assertion of the Rust fails
abbrev pub says_none : List ℕ → Bool
says_none w = bytes_eq w (codes "none") || bytes_eq w (codes "panic")

-- whether fields 2 and on tell the immediate, or that there is none
abbrev pub made_told : List ℕ → Option Made → Option Bool
made_told t None = found (text_at t 2) (λ w. Some (says_none w))
made_told t (Some m) =
    found (code_at t 2) (λ bits.
    found (number_at t 3) (λ value.
    Some (bits == m.bits && int_eq value m.value)))

-- whether a line tells the immediate of its constructor and number
abbrev pub constructed : List ℕ → Option Bool
constructed t =
    found (named_at t 0 constructors) (λ c.
    found (number_at t 1) (λ z.
    made_told t (made_by c z)))

-- -2147485696 to 2147481599
abbrev pub makeable : ℤ → Bool
makeable z = not (int_lt z (negsuc 2147485695)) && int_lt z (pos 2147481600)

-- whether a line tells the pair of immediates that makes its number, or that there is none
abbrev pub paired : List ℕ → Option Bool
paired t =
    found (text_at t 0) (λ name. cond (bytes_eq name (codes "generate_imm")) (
    found (number_at t 1) (λ z.
    found (text_at t 2) (λ w. cond (says_none w) (Some (not (makeable z))) (
    found (integer_at t 2 (2 ^ 19)) (λ high.
    found (integer_at t 3 (2 ^ 11)) (λ low.
    Some (int_eq (made high low) z))))))) None)
