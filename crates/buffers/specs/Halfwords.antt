-- Words in a list of halfwords, the low halfword first.
use Rattle.std.specs.Prelude.{ℕ, zero, suc, ◌+◌, ◌*◌, ◌/◌, ◌%◌, Bool, true, false, List, length, Some, None, Option, nat_le, slice_index, slice_set}
use Rattle.formats.specs.declared.faults.WideCode.{WideCode}
use Rattle.buffers.specs.declared.WriteFault.{WriteFault}
use Rattle.buffers.specs.declared.WriteFault.TheVariants.{Code, Room}

-- the word of n halfwords at the place i
abbrev pub word_at : ℕ → List ℕ → ℕ → ℕ
word_at zero xs i = 0
word_at (suc n) xs i = slice_index xs i + 65536 * word_at n xs (i + 1)

-- the halfwords xs, with the word w of n halfwords at the place i
abbrev pub placed : ℕ → List ℕ → ℕ → ℕ → List ℕ
placed zero xs i w = xs
placed (suc n) xs i w = placed n (slice_set xs i (w % 65536)) (i + 1) (w / 65536)

-- n halfwords from the place i on are there
abbrev pub room : ℕ → List ℕ → ℕ → Bool
room n xs i = nat_le (i + n) (length xs)

-- a word that has room, and none else
abbrev pub word_if : Bool → ℕ → Option ℕ
word_if true w = Some w
word_if false w = None

-- why a word is not written: a code of its operands is too wide, or else it has no room
abbrev pub write_fault : Option WideCode → Bool → Option WriteFault
write_fault (Some e) b = Some (Code e)
write_fault None true = None
write_fault None false = Some Room

-- the halfwords after a write: as they were, where it is refused
abbrev pub after : Option WriteFault → List ℕ → List ℕ → List ℕ
after None new old = new
after (Some e) new old = old
