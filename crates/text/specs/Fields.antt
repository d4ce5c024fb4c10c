-- A line's fields are the parts between its commas, byte 44.
use Rattle.std.specs.Prelude.{◌≡◌, ℕ, zero, suc, ◌+◌, ◌<◌, Bool, cond, ◌&&◌, ◌||◌, List, [], ◌∷◌, ◌++◌, length, drop, position, Some, None, Option, ◌==◌, nat_le}
use Rattle.std.specs.Option.{option_map}
use Rattle.std.specs.List.{AllByRecursion, slice_get, slice_split}
use Rattle.std.specs.Str.{bytes_eq}
use Rattle.text.specs.Bytes.{Without}

-- the fields of a line, one more than it has commas
abbrev pub fields : List ℕ → List (List ℕ)
fields line = slice_split (λ b. b == 44) line

-- the byte at which a field begins: past the fields before it, each with its comma
abbrev pub begins : List (List ℕ) → ℕ → ℕ
begins [] k = 0
begins (f ∷ fs) zero = 0
begins (f ∷ fs) (suc k) = length f + 1 + begins fs k

-- a number's first byte is a minus or a digit
abbrev pub begins_number : ℕ → Bool
begins_number x = x == 45 || (nat_le 48 x && nat_le x 57)

-- a field by its text and the byte at which it begins
pub data Part : Type 0 where
  word_part : List ℕ → ℕ → Part
  number_part : List ℕ → ℕ → Part
  empty_part : ℕ → Part

-- which of the three a text is
abbrev pub part : List ℕ → ℕ → Part
part [] p = empty_part p
part (x ∷ xs) p = cond (begins_number x) (number_part (x ∷ xs) p) (word_part (x ∷ xs) p)

-- a field of a line, by its number from 0
abbrev pub field_of : List ℕ → ℕ → Option Part
field_of line k = option_map (λ t. part t (begins (fields line) k)) (slice_get (fields line) k)

-- a field's bytes
abbrev pub text_of : Part → List ℕ
text_of (word_part t p) = t
text_of (number_part t p) = t
text_of (empty_part p) = []

-- the number of the first text that is this one
abbrev pub place_of : List (List ℕ) → List ℕ → Option ℕ
place_of fs t = position (λ f. bytes_eq f t) fs

-- the fields with the bytes at which they begin, the first of them at p
abbrev pub parts : List (List ℕ) → ℕ → List Part
parts [] p = []
parts (f ∷ fs) p = part f p ∷ parts fs (p + (length f + 1))

-- the fields of a line from a byte on, none where there is no such byte
abbrev pub parts_from : List ℕ → Option ℕ → List Part
parts_from line None = []
parts_from line (Some p) = parts (fields (drop p line)) p

-- the line that fields write: a comma between one and the next
abbrev pub behind_commas : List (List ℕ) → List ℕ
behind_commas [] = []
behind_commas (f ∷ fs) = 44 ∷ (f ++ behind_commas fs)

abbrev pub line_of : List (List ℕ) → List ℕ
line_of [] = []
line_of (f ∷ fs) = f ++ behind_commas fs

-- at least one text, and none holds a comma
pub record Apart (fs : List (List ℕ)) : Type 0 where
  pub any : 0 < length fs
  pub none : AllByRecursion (Without 44) fs

-- a line's fields are the only such texts that write it
abbrev pub FieldsExact : Type 0
FieldsExact = (s : List ℕ) → Apart (fields s) × (line_of (fields s) ≡ s) × ((fs : List (List ℕ)) → Apart fs → line_of fs ≡ s → fs ≡ fields s)
