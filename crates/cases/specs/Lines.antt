-- Whether a vector's word is that of its operation and fields.
use Rattle.std.specs.Prelude.{ℕ, ◌%◌, Bool, false, cond, List, ℤ, Some, Option, ◌==◌}
use Rattle.std.specs.Option.{option_map, unwrap_or}
use Rattle.std.specs.Str.{bytes_eq}
use Rattle.text.specs.Fields.{field_of, text_of}
use Rattle.text.specs.Found.{found}
use Rattle.text.specs.Numbers.{value_of}
use Rattle.text.specs.Written.{hex}
use Rattle.instructions.specs.declared.fields.Fields.{Fields}
use Rattle.cases.specs.Claims.{word_made}

abbrev pub number_at : List ℕ → ℕ → Option ℤ
number_at t k = found (field_of t k) value_of

abbrev pub fields_in : List ℕ → Option Fields
fields_in t =
    found (number_at t 1) (λ rd.
    found (number_at t 2) (λ rs1.
    found (number_at t 3) (λ rs2.
    found (number_at t 4) (λ imm.
    found (number_at t 5) (λ masked.
    Some (record { d = rd; a = rs1; b = rs2; n = imm; m = masked }))))))

-- the word of the operation that the first field names, with the fields of the next five
abbrev pub made_in : List ℕ → Option ℕ
made_in t = found (field_of t 0) (λ name. found (fields_in t) (word_made (text_of name)))

-- a word of two halfwords has its low two bits both 1
abbrev pub digit_count : ℕ → ℕ
digit_count w = cond (w % 4 == 3) 8 4

abbrev pub written : ℕ → List ℕ
written w = hex (digit_count w) w

abbrev pub agreed_in : List ℕ → Option Bool
agreed_in t = found (made_in t) (λ w. option_map (λ f. bytes_eq (text_of f) (written w)) (field_of t 6))

abbrev pub agrees_in : List ℕ → Bool
agrees_in t = unwrap_or (agreed_in t) false
