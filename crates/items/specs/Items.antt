-- The items of a program's listing: an instruction, as its operation's place in the table with its fields; the halfwords of one and of a list. Assumes nothing.
use Rattle.std.specs.Prelude.{◌≡◌, ℕ, ◌*◌, ◌<◌, Bool, true, cond, List, [], ◌∷◌, ◌++◌, ℤ, pos, ◌-ℤ◌, Some, None, Option}
use Rattle.operations.specs.Manual.{form_at, count}
use Rattle.instructions.specs.declared.fields.Fields.{Fields}
use Rattle.instructions.specs.declared.instruction.Instruction.{Instruction}
use Rattle.instructions.specs.Faults.{lawful, reaches, number_ok}
use Rattle.instructions.specs.Words.{halfwords_of}
use Rattle.aiming.specs.Standing.{at_distance, jump_at}

abbrev pub Item : Type 0
Item = ℕ × Fields

abbrev pub item_of : Instruction → Item
item_of i = (i.op.place, i.fields)

-- an operation of the table, with lawful fields
unfoldable pub Lawful : Item → Type 0
Lawful i = (i.0 < count) × (lawful (form_at i.0) i.1 ≡ true)

abbrev pub AllLawful : List Item → Type 0
AllLawful [] = Unit {0}
AllLawful (i ∷ is) = Lawful i × AllLawful is

-- the halfwords of an item, the low one first
unfoldable pub words : Item → List ℕ
words i = halfwords_of i.0 i.1

abbrev pub halfs : List Item → List ℕ
halfs [] = []
halfs (i ∷ is) = words i ++ halfs is

-- ---- jumps

-- the operation has a distance
unfoldable pub jumps : Item → Bool
jumps i = reaches (form_at i.0).kind

-- a jump can have that distance: it is even and within reach
unfoldable pub in_reach : Item → ℤ → Bool
in_reach i z = number_ok (form_at i.0).n z

-- the same registers at another distance
unfoldable pub aimed_at : Item → ℤ → Item
aimed_at i z = (i.0, at_distance i.1 z)

-- the distance that an item has
unfoldable pub distance_of : Item → ℤ
distance_of i = i.1.n

-- from a place to a place, in bytes
abbrev pub distance : ℕ → ℕ → ℤ
distance p q = pos (2 * q) -ℤ pos (2 * p)

-- its halfwords at that distance: none where it is out of reach
abbrev pub aimed_words : Item → ℤ → Option (List ℕ)
aimed_words i z = cond (in_reach i z) (Some (words (aimed_at i z))) None

-- the jump whose whole word begins at the place p of the first `used` halfwords
unfoldable pub jump_standing : List ℕ → ℕ → ℕ → Option Item
jump_standing cells used p = jump_at cells used p
