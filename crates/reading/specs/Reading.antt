-- What the reader promises.
use Rattle.std.specs.Prelude.{◌≡◌, ℕ, true, List, [], ◌∷◌, ◌++◌, Some, None, Option, ◌≢◌}
use Rattle.instructions.specs.declared.instruction.Instruction.{Instruction}
use Rattle.bits.specs.declared.part.Values.{Values}
use Rattle.bits.specs.Layout.{word, Fit}
use Rattle.formats.specs.Layouts.{layout}
use Rattle.operations.specs.declared.row.Form.{Form}
use Rattle.operations.specs.Manual.{form_at}
use Rattle.instructions.specs.declared.fields.Fields.{Fields}
use Rattle.instructions.specs.Faults.{lawful}
use Rattle.instructions.specs.Words.{word_of, the_word, halfwords_in}

-- the fields have the operation's codes
pub record Coded (r : Form) (v : Values) : Type 0 where
  pub opcode : r.opcode ≡ v.opcode
  pub funct3 : r.funct3 ≡ v.funct3
  pub funct : r.funct ≡ v.funct

-- a word reads as an instruction exactly when it is that instruction's word
abbrev pub Reads : ℕ → Option Instruction → Type 0
Reads w r = (i : Instruction) → (r ≡ Some i → the_word i ≡ w) × (the_word i ≡ w → r ≡ Some i)

-- the fields of a word of that form, with its codes: none only where no such fields have that word
abbrev pub ValuesAs : Form → ℕ → Option Values → Type 0
ValuesAs r w None = (v : Values) → Fit (layout r.kind) v → Coded r v → word (layout r.kind) v ≢ w
ValuesAs r w (Some v) = Fit (layout r.kind) v × Coded r v × (word (layout r.kind) v ≡ w)

-- it is the word of no lawful fields of the operation at k
pub record Unread (k w : ℕ) : Type 0 where
  pub none : (f : Fields) → lawful (form_at k) f ≡ true → word_of (form_at k) f ≢ w

-- the word as an instruction of one operation: none only where none has it
abbrev pub ReadsAs : ℕ → ℕ → Option Instruction → Type 0
ReadsAs k w None = Unread k w
ReadsAs k w (Some i) = the_word i ≡ w

-- equal words, equal instructions
abbrev pub WordsTell : Type 0
WordsTell = (i j : Instruction) → the_word i ≡ the_word j → i ≡ j

-- the halfwords of a list of instructions
abbrev pub listing : List Instruction → List ℕ
listing [] = []
listing (i ∷ is) = halfwords_in i ++ listing is

-- a list of instructions is known by its halfwords
abbrev pub HalfwordsTell : Type 0
HalfwordsTell = (p q : List Instruction) → listing p ≡ listing q → p ≡ q
