-- What the records of a program say: labels as (label, place), jumps as (place, label), slots as (place, register), each list in the order in which they came. Assumes nothing.
use Rattle.std.specs.Prelude.{ℕ, ◌+◌, cond, List, [], ◌∷◌, map, take, replicate, ℤ, pos, Some, None, Option, ◌==◌, slice_set}
use Rattle.records.specs.declared.counts.Counts.{Counts}
use Rattle.records.specs.declared.book.LabelRecord.{LabelRecord}
use Rattle.records.specs.declared.book.JumpRecord.{JumpRecord}
use Rattle.records.specs.declared.book.SlotRecord.{SlotRecord}
use Rattle.records.specs.declared.book.Book.{Book}

-- ---- counts

abbrev pub none : Counts
none = record { used = 0; labels = 0; jumps = 0; slots = 0 }

-- n halfwords more
abbrev pub more_used : Counts → ℕ → Counts
more_used c n = record { used = c.used + n; labels = c.labels; jumps = c.jumps; slots = c.slots }

abbrev pub more_labels : Counts → Counts
more_labels c = record { used = c.used; labels = c.labels + 1; jumps = c.jumps; slots = c.slots }

-- a jump of n halfwords more
abbrev pub more_jumps : Counts → ℕ → Counts
more_jumps c n = record { used = c.used + n; labels = c.labels; jumps = c.jumps + 1; slots = c.slots }

-- a slot more, with its pair of two words
abbrev pub more_slots : Counts → Counts
more_slots c = record { used = c.used + 4; labels = c.labels; jumps = c.jumps; slots = c.slots + 1 }

-- ---- the book

abbrev pub no_label : LabelRecord
no_label = record { label = 0; place = 0 }

abbrev pub no_jump : JumpRecord
no_jump = record { place = 0; label = 0; distance = pos 0 }

abbrev pub no_slot : SlotRecord
no_slot = record { place = 0; register = pos 0 }

abbrev pub blank : Book
blank = record { labels = replicate 64 no_label; jumps = replicate 128 no_jump; slots = replicate 32 no_slot }

-- the label l, bound at p, as record k
abbrev pub label_in : Book → ℕ → ℕ → ℕ → Book
label_in b k l p = record { labels = slice_set b.labels k (record { label = l; place = p }); jumps = b.jumps; slots = b.slots }

-- the jump at p to the label l, as record k; it has no distance yet
abbrev pub jump_in : Book → ℕ → ℕ → ℕ → Book
jump_in b k p l = record { labels = b.labels; jumps = slice_set b.jumps k (record { place = p; label = l; distance = pos 0 }); slots = b.slots }

-- the slot at p for the register d, as record k
abbrev pub slot_in : Book → ℕ → ℕ → ℤ → Book
slot_in b k p d = record { labels = b.labels; jumps = b.jumps; slots = slice_set b.slots k (record { place = p; register = d }) }

abbrev pub label_of : LabelRecord → ℕ × ℕ
label_of r = (r.label, r.place)

abbrev pub jump_of : JumpRecord → ℕ × ℕ
jump_of r = (r.place, r.label)

abbrev pub slot_of : SlotRecord → ℕ × ℤ
slot_of r = (r.place, r.register)

-- the first n labels
abbrev pub labels_among : ℕ → Book → List (ℕ × ℕ)
labels_among n b = map label_of (take n b.labels)

-- the labels, jumps and slots that count
abbrev pub labels_in : Counts → Book → List (ℕ × ℕ)
labels_in c b = labels_among c.labels b

abbrev pub jumps_in : Counts → Book → List (ℕ × ℕ)
jumps_in c b = map jump_of (take c.jumps b.jumps)

abbrev pub slots_in : Counts → Book → List (ℕ × ℤ)
slots_in c b = map slot_of (take c.slots b.slots)

-- where a label is bound
abbrev pub place_of : List (ℕ × ℕ) → ℕ → Option ℕ
place_of [] l = None
place_of (x ∷ xs) l = cond (x.0 == l) (Some x.1) (place_of xs l)
