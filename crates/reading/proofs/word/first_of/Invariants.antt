use Rattle.std.proofs.Common.{ℕ, ◌<◌, slice_index}
use Rattle.operations.specs.Manual.{count}
use Rattle.reading.specs.Reading.{Unread}
use Rattle.reading.proofs.word.first_of.Given as goal

-- none of the operations so far has the word
abbrev pub invariant-loop-place : goal.invariant-loop-place
invariant-loop-place l = (j : ℕ) → j < l.place-index → slice_index l.places j < count → Unread (slice_index l.places j) l.w
