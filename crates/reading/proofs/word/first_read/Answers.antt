use Rattle.std.proofs.Common.{◌≡◌, Some, None, Option, MatchOption}
use Rattle.instructions.specs.declared.instruction.Instruction.{Instruction}
use Rattle.instructions.specs.Words.{the_word}
use Rattle.reading.proofs.Grouped.{unread_all}
use Rattle.reading.proofs.Tell.{found}
use Rattle.reading.proofs.word.first_read.Goals as goal

by : {N N' : Type 0} (S : Instruction → Type 0) (r : Option Instruction) → (N → N') → MatchOption r N S → MatchOption r N' S
by S None n h = n h
by S (Some i) n h = h

pub returns : goal.returns
returns c =
    found c.args.w c.first_of.result
    (by (λ i. the_word i ≡ c.args.w) c.first_of.result (unread_all c.args.w c.candidates.result.now c.candidates.ensures) c.first_of.ensures)
