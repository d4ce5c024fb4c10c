-- The pair of items that a constant is, as the listing has it. Assumes nothing.
use Rattle.std.specs.Prelude.{ℕ, ◌+◌, Bool, List, ◌++◌, ℤ, slice_index}
use Rattle.pairs.specs.Pairs as pairs
use Rattle.items.specs.Items.{Item, words}

-- a register that a constant may go into: 1 to 31
unfoldable pub register_ok : ℤ → Bool
register_ok d = pairs.holds_number d

-- a number that a pair makes
unfoldable pub makeable : ℤ → Bool
makeable v = pairs.makeable v

-- lui d, high and addi d, d, low
unfoldable pub upper : ℤ → ℤ → Item
upper d v = pairs.upper d v

unfoldable pub lower : ℤ → ℤ → Item
lower d v = pairs.lower d v

abbrev pub pair : ℤ → ℤ → List ℕ
pair d v = words (upper d v) ++ words (lower d v)

-- 4096 * high + low of the bits in four halfwords
unfoldable pub held : ℕ → ℕ → ℕ → ℕ → ℤ
held a b c e = pairs.held a b c e

-- of those from the place p up
abbrev pub held_at : List ℕ → ℕ → ℤ
held_at cells p = held (slice_index cells p) (slice_index cells (p + 1)) (slice_index cells (p + 2)) (slice_index cells (p + 3))
