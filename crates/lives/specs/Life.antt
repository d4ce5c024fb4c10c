-- What holds between any two calls of a life, and whole lives. Assumes nothing.
use Rattle.std.specs.Prelude.{◌≡◌, ℕ, ◌+◌, ◌*◌, ◌<◌, ◌≤◌, ◌⊎◌, List, [], ◌∷◌, ◌++◌, map, length, take, drop, ℤ, pos, ◌+ℤ◌, Some, None, Option, slice_index}
use Rattle.instructions.specs.declared.instruction.Instruction.{Instruction}
use Rattle.reading.specs.Reading.{listing}
use Rattle.records.specs.declared.book.JumpRecord.{JumpRecord}
use Rattle.records.specs.declared.book.Book.{Book}
use Rattle.records.specs.Records.{place_of, jump_of, slot_of, labels_among}
use Rattle.items.specs.Items.{Item, item_of, words, halfs, AllLawful, distance_of, jump_standing}
use Rattle.items.specs.Pairs.{held_at}
use Rattle.sealing.specs.Sealing.{distance_to}
use Rattle.changing.specs.declared.edits.Edit.{Edit}
use Rattle.changing.specs.Changing.{numbered}
use Rattle.lives.specs.declared.types.Call.{Call}
use Rattle.lives.specs.declared.types.Call.TheVariants.{Do, Try, Keep, GiveUp, Seal, Change, Value}
use Rattle.lives.specs.declared.types.Answer.{Answer}
use Rattle.lives.specs.declared.types.Answer.TheVariants.{Taken, Held, Refused, OutOfState}
use Rattle.lives.specs.declared.types.Entry.{Entry}
use Rattle.lives.specs.Listing.{Slot, Listing, Mode, free, trying, closed, Stage, end, start, spot, item_at, judged, moved}

-- an item's first halfword, or the end
abbrev pub Starts : List Item → ℕ → Type 0
Starts code q = (m : ℕ) × (m ≤ length code) × (length (halfs (take m code)) ≡ q)

-- The jump at its place, by the bits that stand there among the used halfwords, leads to where its label was bound: its place plus half the distance in its word, that is, twice the place plus the distance is twice that place.
pub record Leads (ls : List (ℕ × ℕ)) (code : List Item) (cells : List ℕ) (p l : ℕ) : Type 0 where
  pub goal : ℕ
  pub bound : place_of ls l ≡ Some goal
  pub word : Item
  pub stands : jump_standing cells (length (halfs code)) p ≡ Some word
  pub leads : pos (2 * p) +ℤ distance_of word ≡ pos (2 * goal)
  pub starts : Starts code goal

abbrev pub EachLeads : List (ℕ × ℕ) → List Item → List ℕ → List (ℕ × ℕ) → Type 0
EachLeads ls code cells [] = Unit {0}
EachLeads ls code cells (j ∷ js) = Leads ls code cells j.0 j.1 × EachLeads ls code cells js

abbrev pub OnceSealed : Mode → Listing → List ℕ → Type 0
OnceSealed free L cells = Unit {0}
OnceSealed (trying S) L cells = Unit {0}
OnceSealed closed L cells = EachLeads L.labels L.code cells L.jumps

-- each slot holds what the last taken constant or change gave it
abbrev pub EachHolds : List ℕ → List Slot → Type 0
EachHolds cells [] = Unit {0}
EachHolds cells (s ∷ ss) = (held_at cells s.place ≡ s.value) × EachHolds cells ss

-- The used halfwords are the words of the listing's items, each a lawful instruction, and of no other list of instructions; once sealed every jump leads to its label; every slot holds what was last given.
pub record Promise (s : Stage) (cells : List ℕ) : Type 0 where
  pub code : take (end s.listing) cells ≡ halfs s.listing.code
  pub lawful : AllLawful s.listing.code
  pub only : (is : List Instruction) → listing is ≡ take (end s.listing) cells → map item_of is ≡ s.listing.code
  pub leads : OnceSealed s.mode s.listing cells
  pub slots : EachHolds cells s.listing.slots

-- ---- all that a taken call may alter among the halfwords used before

-- outside n halfwords from the place p up
abbrev pub Beside : ℕ → ℕ → ℕ → Type 0
Beside p n k = (k < p) ⊎ (p + n ≤ k)

-- outside the pair of a slot, where there is one
abbrev pub BesidePair : Option Slot → ℕ → Type 0
BesidePair None k = Unit {0}
BesidePair (Some s) k = Beside s.place 4 k

abbrev pub BesidePairs : List Slot → List Edit → ℕ → Type 0
BesidePairs slots [] k = Unit {0}
BesidePairs slots (e ∷ es) k = BesidePair (numbered slots e.slot) k × BesidePairs slots es k

-- outside the word of an item at p, where there is one
abbrev pub BesideItem : ℕ → Option Item → ℕ → Type 0
BesideItem p None k = Unit {0}
BesideItem p (Some i) k = Beside p (length (words i)) k

abbrev pub BesideJumps : List Item → List (ℕ × ℕ) → ℕ → Type 0
BesideJumps code [] k = Unit {0}
BesideJumps code (j ∷ js) k = BesideItem j.0 (item_at 0 code j.0) k × BesideJumps code js k

abbrev pub AltersBy : Listing → Call → List ℕ → List ℕ → Type 0
AltersBy L (Do d) before after = take (end L) after ≡ take (end L) before
AltersBy L Try before after = after ≡ before
AltersBy L Keep before after = after ≡ before
AltersBy L GiveUp before after = after ≡ before
AltersBy L Seal before after = (k : ℕ) → BesideJumps L.code L.jumps k → slice_index after k ≡ slice_index before k
AltersBy L (Change es) before after = (k : ℕ) → BesidePairs L.slots es.now k → slice_index after k ≡ slice_index before k
AltersBy L (Value n) before after = after ≡ before

abbrev pub Alters : Listing → Call → Answer → List ℕ → List ℕ → Type 0
Alters L c Taken before after = AltersBy L c before after
Alters L c (Held v) before after = after ≡ before
Alters L c (Refused f) before after = after ≡ before
Alters L c OutOfState before after = after ≡ before

-- ---- lives

-- Calls with their answers, in order, on a store that held `first` at the making; the stage then reached, and what the store then holds. Each call has the answer that the listing names; past the end nothing is altered, before it only
-- what the call may alter; and the promise holds after it.
pub data Run (first : List ℕ) : List Entry → Stage → List ℕ → Type 0 where
  made : Promise start first → Run first [] start first
  then : {es : List Entry} {s : Stage} {before after : List ℕ} →
      Run first es s before → (c : Call) (a : Answer) → a ≡ judged (length first) s c →
      drop (end (moved s c a).listing) after ≡ drop (end (moved s c a).listing) before →
      Alters s.listing c a before after → Promise (moved s c a) after →
      Run first (es ++ (record { call = c; answer = a } ∷ [])) (moved s c a) after

abbrev pub noted_distance : JumpRecord → ℤ
noted_distance r = r.distance

-- from a jump's place to where its label is bound
abbrev pub due_distance : List (ℕ × ℕ) → ℕ × ℕ → ℤ
due_distance ls j = distance_to j.0 (place_of ls j.1)

-- once sealed, the record of each jump has the distance to its label
abbrev pub EachNoted : Mode → Listing → Book → Type 0
EachNoted free L b = Unit {0}
EachNoted (trying S) L b = Unit {0}
EachNoted closed L b = map noted_distance (take (length L.jumps) b.jumps) ≡ map (due_distance L.labels) L.jumps

-- The records that count are the listing's, in its order; the others count for nothing.
pub record Recorded (s : Stage) (b : Book) : Type 0 where
  pub labels : labels_among (length s.listing.labels) b ≡ s.listing.labels
  pub jumps : map jump_of (take (length s.listing.jumps) b.jumps) ≡ s.listing.jumps
  pub slots : map slot_of (take (length s.listing.slots) b.slots) ≡ map spot s.listing.slots
  pub distances : EachNoted s.mode s.listing b

-- a try that the calls end in is given up
abbrev pub given_up : Stage → Stage
given_up s = elim s.mode [ free ↦ s | trying S ↦ record { mode = free; listing = S } | closed ↦ s ]

-- some stage is reached; without the try that the calls may end in, its promise holds, its records are in the book, and so many halfwords are used; the store is as long as it was
abbrev pub Lived : List ℕ → List Entry → Book → List ℕ → ℕ → Type 0
Lived first es b cells used = (s : Stage) × Run first es s cells × Promise (given_up s) cells × Recorded (given_up s) b × (used ≡ end (given_up s).listing) × (length cells ≡ length first)

abbrev pub call_of : Entry → Call
call_of e = e.call

-- the calls with their answers determine the stage and the store: so, of every beginning of a life, what the store held then
abbrev pub RunsDetermine : Type 0
RunsDetermine = (first : List ℕ) (es : List Entry) (s t : Stage) (cells cells₁ : List ℕ) → Run first es s cells → Run first es t cells₁ → (s ≡ t) × (cells ≡ cells₁)
