-- Which numbers of a field's range an operation takes.
use Rattle.std.specs.Prelude.{ℕ, Bool, true, false, not, ◌&&◌, ◌||◌, ℤ, pos, negsuc, ◌==◌, unsigned_abs}
use Rattle.operations.specs.declared.row.Except.{Except}
use Rattle.operations.specs.declared.row.Except.TheVariants.{Nothing, Zero, ZeroAndTwo}
use Rattle.operations.specs.declared.row.Allowed.{Allowed}
use Rattle.operations.specs.declared.row.Allowed.TheVariants.{All, NonZero, GroupSize}

-- a register
abbrev pub permits : Except → ℕ → Bool
permits Nothing x = true
permits Zero x = not (x == 0)
permits ZeroAndTwo x = not (x == 0) && not (x == 2)

-- a constant
abbrev pub allows : Allowed → ℤ → Bool
allows All n = true
allows NonZero n = not (unsigned_abs n == 0)
allows GroupSize (pos n) = n == 0 || (n == 1 || (n == 3 || n == 7))
allows GroupSize (negsuc n) = false
