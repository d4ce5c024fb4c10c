-- Halfwords in bytes, low byte first. Assumes nothing.
use Rattle.std.specs.Prelude.{ℕ, ◌+◌, ◌*◌, ◌/◌, ◌%◌, List, [], ◌∷◌, take, drop, slice_set}

-- the halfwords of a row of bytes; an odd last byte does not count
abbrev pub halves : List ℕ → List ℕ
halves [] = []
halves (low ∷ []) = []
halves (low ∷ (high ∷ rest)) = (low + 256 * high) ∷ halves rest

-- the halfwords of a memory from the byte `start` on, at most 32768 of them
abbrev pub held : ℕ → List ℕ → List ℕ
held start memory = take 32768 (halves (drop start memory))

-- a memory with the halfword h at its bytes i and i + 1
abbrev pub with_half : List ℕ → ℕ → ℕ → List ℕ
with_half memory i h = slice_set (slice_set memory i (h % 256)) (i + 1) (h / 256)
