-- The operations with the same leading codes.
use Rattle.std.specs.Prelude.{ℕ, ◌+◌, ◌*◌, ◌/◌, ◌%◌, ◌^◌, cond, List, [], ◌∷◌, map, ◌==◌}
use Rattle.std.specs.List.{range_with_len}
use Rattle.operations.specs.Manual.{Entry, operations}

-- the leading codes of a word: for one of 16 bits the quadrant, its low two bits, and funct3, its bits 15 to 13; for one of 32 bits the opcode
-- above the low two bits, which are both 1, but for vector arithmetic funct6, its bits 31 to 26
abbrev pub group_of : ℕ → ℕ
group_of w = cond (w % 4 == 3) (cond (w / 4 % 32 == 21) (56 + w / 2 ^ 26 % 64) (24 + w / 4 % 32)) (w % 4 * 8 + w / 2 ^ 13 % 8)

-- the places, counted from k, of the entries with those leading codes
abbrev pub members_from : ℕ → List Entry → ℕ → List ℕ
members_from k [] g = []
members_from k (e ∷ es) g = cond (group_of e.form.bits == g) (k ∷ members_from (k + 1) es g) (members_from (k + 1) es g)

-- the places of the operations with those leading codes
abbrev pub members : ℕ → List ℕ
members g = members_from 0 operations g

abbrev pub group_count : ℕ
group_count = 120

unfoldable pub all_members : List (List ℕ)
all_members = map members (range_with_len 0 group_count)
