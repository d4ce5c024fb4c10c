-- A part of a list. Assumes nothing.
use Rattle.std.specs.Prelude.{ℕ, List, take, drop}

-- the halfwords from a place on, at most so many
abbrev pub part : ℕ → ℕ → List ℕ → List ℕ
part from most xs = take most (drop from xs)
