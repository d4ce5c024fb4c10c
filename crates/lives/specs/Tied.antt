-- How counts, book and store stand for a listing. Assumes nothing.
use Rattle.std.specs.Prelude.{◌≡◌, ℕ, ◌+◌, ◌≤◌, true, false, List, [], ◌∷◌, map, length, take, ℤ, Some}
use Rattle.records.specs.declared.counts.Counts.{Counts}
use Rattle.records.specs.declared.book.Book.{Book}
use Rattle.records.specs.Records.{place_of, labels_in, jumps_in, slots_in}
use Rattle.items.specs.Items.{Item, Lawful, words, halfs, jumps, distance_of, distance}
use Rattle.items.specs.Pairs.{register_ok, makeable, upper, lower}
use Rattle.lives.specs.declared.types.Entry.{Entry}
use Rattle.lives.specs.Listing.{Listing, Slot, free, trying, closed, end, spot}
use Rattle.lives.specs.Life.{Run, Starts, EachNoted}

-- Jumps and slots stand among the items, in their order, at their places, the items beginning at a place. What is asked of a jump's distance is a parameter.
pub data Stands (P : ℕ × ℕ → ℤ → Type 0) : ℕ → List Item → List (ℕ × ℕ) → List Slot → Type 0 where
  none : {at : ℕ} → Stands P at [] [] []
  some : {at : ℕ} {js : List (ℕ × ℕ)} {ss : List Slot} (i : Item) (is : List Item) → Lawful i → jumps i ≡ false → Stands P (at + length (words i)) is js ss → Stands P at (i ∷ is) js ss
  jump : {at : ℕ} {ss : List Slot} (l : ℕ) (i : Item) (is : List Item) (js : List (ℕ × ℕ)) → Lawful i → jumps i ≡ true → P (at, l) (distance_of i) → Stands P (at + length (words i)) is js ss →
      Stands P at (i ∷ is) ((at, l) ∷ js) ss
  slot : {at : ℕ} {js : List (ℕ × ℕ)} (d v : ℤ) (is : List Item) (ss : List Slot) → register_ok d ≡ true → makeable v ≡ true → Stands P (at + 4) is js ss →
      Stands P at (upper d v ∷ lower d v ∷ is) js (record { place = at; register = d; value = v } ∷ ss)

-- of an open program's jumps nothing, of a sealed one's that they have the distance to their labels
abbrev pub Any : ℕ × ℕ → ℤ → Type 0
Any j z = Unit {0}

abbrev pub Aims : List (ℕ × ℕ) → ℕ × ℕ → ℤ → Type 0
Aims ls j z = (q : ℕ) × (place_of ls j.1 ≡ Some q) × (z ≡ distance j.0 q)

abbrev pub AllStart : List Item → List (ℕ × ℕ) → Type 0
AllStart code [] = Unit {0}
AllStart code (l ∷ ls) = Starts code l.1 × AllStart code ls

pub record Tied (P : ℕ × ℕ → ℤ → Type 0) (n : ℕ) (L : Listing) (c : Counts) (b : Book) (cells : List ℕ) : Type 0 where
  pub whole : length cells ≡ n
  pub used : c.used ≡ end L
  pub code : take c.used cells ≡ halfs L.code
  pub nlabels : c.labels ≡ length L.labels
  pub labels : labels_in c b ≡ L.labels
  pub njumps : c.jumps ≡ length L.jumps
  pub jumps : jumps_in c b ≡ L.jumps
  pub nslots : c.slots ≡ length L.slots
  pub slots : slots_in c b ≡ map spot L.slots
  pub stands : Stands P 0 L.code L.jumps L.slots
  pub starts : AllStart L.code L.labels
  pub label_room : length b.labels ≡ 64
  pub jump_room : length b.jumps ≡ 128
  pub slot_room : length b.slots ≡ 32

pub record Over (lo hi : Counts) : Type 0 where
  pub used : lo.used ≤ hi.used
  pub labels : lo.labels ≤ hi.labels
  pub jumps : lo.jumps ≤ hi.jumps
  pub slots : lo.slots ≤ hi.slots

abbrev pub OpenAt : List ℕ → List Entry → Counts → Book → List ℕ → Type 0
OpenAt n es c b cells = (L : Listing) × Run n es (record { mode = free; listing = L }) cells × Tied Any (length n) L c b cells

abbrev pub TryAt : List ℕ → List Entry → Counts → Counts → Book → List ℕ → Type 0
TryAt n es c saved b cells =
    (L : Listing) × (S : Listing) × Run n es (record { mode = trying S; listing = L }) cells × Tied Any (length n) L c b cells × Tied Any (length n) S saved b cells × Over saved c

abbrev pub SealedAt : List ℕ → List Entry → Counts → Book → List ℕ → Type 0
SealedAt n es c b cells = (L : Listing) × Run n es (record { mode = closed; listing = L }) cells × Tied (Aims L.labels) (length n) L c b cells × EachNoted closed L b

-- ---- a life that has come so far on that store, its program with those counts and that book

unfoldable pub OpenLife : List ℕ → List Entry → Counts → Book → List ℕ → Type 0
OpenLife first es c b cells = OpenAt first es c b cells

-- inside a try, with the counts saved
unfoldable pub TryLife : List ℕ → List Entry → Counts → Counts → Book → List ℕ → Type 0
TryLife first es c saved b cells = TryAt first es c saved b cells

unfoldable pub SealedLife : List ℕ → List Entry → Counts → Book → List ℕ → Type 0
SealedLife first es c b cells = SealedAt first es c b cells
