-- What comes of reading words, and the counts.
use Rattle.std.specs.Prelude.{◌≡◌, ℕ, ◌+◌, ◌≢◌}
use Rattle.instructions.specs.declared.instruction.Instruction.{Instruction}
use Rattle.instructions.specs.Words.{the_word}
use Rattle.sweep.specs.declared.outcome.Outcome.{Outcome}
use Rattle.sweep.specs.declared.outcome.Outcome.TheVariants.{Unread, Itself, Other}

-- no instruction has the word, or one has; nothing else comes of it
abbrev pub Comes : ℕ → Outcome → Type 0
Comes w Unread = (i : Instruction) → the_word i ≢ w
Comes w Itself = (i : Instruction) × (the_word i ≡ w)
Comes w Other = ⊥

-- of the first n of some words, so many are an instruction's and so many are none's
pub data Counted (words : ℕ → ℕ) : ℕ → ℕ → ℕ → Type 0 where
  none : Counted words 0 0 0
  one_read : {n r u : ℕ} → (i : Instruction) → the_word i ≡ words n → Counted words n r u → Counted words (n + 1) (r + 1) u
  one_unread : {n r u : ℕ} → ((i : Instruction) → the_word i ≢ words n) → Counted words n r u → Counted words (n + 1) r (u + 1)

-- the words below 65536, in order
abbrev pub itself : ℕ → ℕ
itself n = n
