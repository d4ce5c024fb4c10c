-- What a worked case claims, and what the library answers.
use Rattle.std.specs.Prelude.{◌≡◌, ℕ, Bool, true, false, cond, ◌&&◌, List, ℤ, Some, None, Option, ◌==◌}
use Rattle.std.specs.Option.{option_map}
use Rattle.std.specs.Ordering.{int_eq}
use Rattle.text.specs.Found.{found}
use Rattle.operations.specs.Manual.{operations, form_at}
use Rattle.operations.specs.Names.{named}
use Rattle.instructions.specs.declared.fields.Fields.{Fields}
use Rattle.instructions.specs.Faults.{lawful, build_fault}
use Rattle.instructions.specs.Numbers.{refusal}
use Rattle.instructions.specs.Words.{word_of}
use Rattle.pairs.specs.Pairs.{makeable, high_of, low_of}
use Rattle.cases.specs.declared.made.Parts.{Parts}
use Rattle.cases.specs.declared.case.Case.{Case}
use Rattle.cases.specs.declared.case.Case.TheVariants.{Word, Refused, Pair, NoPair}

-- a named operation with these fields has this word, or is refused with this number; a value is made of this high and low part, or of none
pub data Claim : Type 0 where
  has_word : List ℕ → Fields → ℕ → Claim
  is_refused : List ℕ → Fields → ℕ → Claim
  has_parts : ℤ → Parts → Claim
  has_none : ℤ → Claim

abbrev pub claim_of : Case → Claim
claim_of (Word name fields word) = has_word name.now fields word
claim_of (Refused name fields number) = is_refused name.now fields number
claim_of (Pair value parts) = has_parts value parts
claim_of (NoPair value) = has_none value

-- the word of lawful fields of an operation, by its place in the table
abbrev pub lawful_word : Fields → ℕ → Option ℕ
lawful_word f k = cond (lawful (form_at k) f) (Some (word_of (form_at k) f)) None

-- the word of the operation of that name with these fields, if they are lawful
abbrev pub word_made : List ℕ → Fields → Option ℕ
word_made name f = found (named operations name) (lawful_word f)

-- the number with which build refuses these fields of an operation, by its place in the table
abbrev pub build_refusal : Fields → ℕ → Option ℕ
build_refusal f k = option_map refusal (build_fault (form_at k) f)

-- the same of the operation of that name
abbrev pub refusal_of : List ℕ → Fields → Option ℕ
refusal_of name f = found (named operations name) (build_refusal f)

abbrev pub parts_of : ℤ → Parts
parts_of v = record { high = high_of v; low = low_of v }

-- the high and the low part of a number, if an Imm20 and an Imm12 make it
abbrev pub generated : ℤ → Option Parts
generated v = cond (makeable v) (Some (parts_of v)) None

-- a claim as an equation
abbrev pub Holds : Claim → Type 0
Holds (has_word name f w) = word_made name f ≡ Some w
Holds (is_refused name f n) = refusal_of name f ≡ Some n
Holds (has_parts v p) = generated v ≡ Some p
Holds (has_none v) = generated v ≡ None

abbrev is_number : Option ℕ → ℕ → Bool
is_number None n = false
is_number (Some x) n = x == n

abbrev is_parts : Option Parts → Parts → Bool
is_parts None p = false
is_parts (Some q) p = int_eq q.high p.high && int_eq q.low p.low

abbrev is_none : Option Parts → Bool
is_none None = true
is_none (Some p) = false

-- the same as a test
abbrev pub holds : Claim → Bool
holds (has_word name f w) = is_number (word_made name f) w
holds (is_refused name f n) = is_number (refusal_of name f) n
holds (has_parts v p) = is_parts (generated v) p
holds (has_none v) = is_none (generated v)
