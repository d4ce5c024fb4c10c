-- Reading at a place of a store.
use Rattle.std.specs.Prelude.{◌≡◌, ℕ, ◌+◌, ◌*◌, ◌%◌, cond, List, Some, None, Ok, Err, Option, Result, ◌==◌}
use Rattle.std.specs.List.{slice_get}
use Rattle.instructions.specs.declared.instruction.Instruction.{Instruction}
use Rattle.reading.specs.declared.faults.ReadFault.{ReadFault}
use Rattle.reading.specs.declared.faults.ReadFault.TheVariants.{Outside, NoInstruction}
use Rattle.reading.specs.Reading.{Reads}

-- two halfwords as one word, the low one first
abbrev pub with_high : ℕ → Option ℕ → Option ℕ
with_high x None = None
with_high x (Some y) = Some (y * 65536 + x)

-- the word that a halfword begins, before another: its second halfword belongs to it when its low two bits are both 1
abbrev pub begun : Option ℕ → Option ℕ → Option ℕ
begun None next = None
begun (Some x) next = cond (x % 4 == 3) (with_high x next) (Some x)

-- the word that begins at a place, if its halfwords are there
abbrev pub word_at : List ℕ → ℕ → Option ℕ
word_at hs p = begun (slice_get hs p) (slice_get hs (p + 1))

abbrev pub answered : ℕ → Option Instruction → Result Instruction ReadFault
answered w None = Err (NoInstruction w)
answered w (Some i) = Ok i

-- outside, that is the answer; else the instruction whose word it is, or that there is none
abbrev pub ReadsAt : Option ℕ → ℕ → Result Instruction ReadFault → Type 0
ReadsAt None p r = r ≡ Err (Outside p)
ReadsAt (Some w) p r = (found : Option Instruction) × (Reads w found × (r ≡ answered w found))
