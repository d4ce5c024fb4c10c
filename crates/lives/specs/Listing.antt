-- The listing of a program's history: its items in order, its labels with their places, its jumps with place and label, its slots with place, register and value. It is worked out from each call's arguments and
-- whether the call was taken, and from nothing that the program records. Assumes nothing.
use Rattle.std.specs.Prelude.{ℕ, zero, suc, ◌+◌, cond, List, [], ◌∷◌, ◌++◌, map, length, drop, ℤ, pos, negsuc, Some, None, Ok, Err, Option, ◌==◌, nat_le}
use Rattle.std.specs.List.{slice_get}
use Rattle.records.specs.Records.{place_of}
use Rattle.items.specs.Items.{Item, item_of, words, halfs, jumps, aimed_at}
use Rattle.items.specs.Pairs.{upper, lower}
use Rattle.calls.specs.Calls.{emitted, constanted, jumped, bound, jump_item, label_number}
use Rattle.sealing.specs.declared.faults.SealFault.TheVariants as seal
use Rattle.sealing.specs.Sealing.{jump_judged, distance_to}
use Rattle.sealing.specs.Sealing as sealing
use Rattle.changing.specs.declared.edits.Edit.{Edit}
use Rattle.changing.specs.declared.faults.ValueFault.TheVariants as value
use Rattle.changing.specs.Changing.{numbered, changed_answer}
use Rattle.lives.specs.declared.types.Deed.{Deed}
use Rattle.lives.specs.declared.types.Deed.TheVariants.{Emit, Constant, Jump, Bind}
use Rattle.lives.specs.declared.types.Call.{Call}
use Rattle.lives.specs.declared.types.Call.TheVariants.{Do, Try, Keep, GiveUp, Seal, Change, Value}
use Rattle.lives.specs.declared.types.Fault.TheVariants as fault
use Rattle.lives.specs.declared.types.Answer.{Answer}
use Rattle.lives.specs.declared.types.Answer.TheVariants.{Taken, Held, Refused, OutOfState}
use Rattle.lives.specs.Deeds.{Verdict, raised, told}

pub record Slot : Type 0 where
  pub place : ℕ
  pub register : ℤ
  pub value : ℤ

pub record Listing : Type 0 where
  pub code : List Item
  pub labels : List (ℕ × ℕ)
  pub jumps : List (ℕ × ℕ)
  pub slots : List Slot

-- open; inside a try, with what it saved; sealed
pub data Mode : Type 0 where
  free : Mode
  trying : Listing → Mode
  closed : Mode

pub record Stage : Type 0 where
  pub mode : Mode
  pub listing : Listing

-- the used count: how many halfwords its items have together
abbrev pub end : Listing → ℕ
end L = length (halfs L.code)

abbrev pub spot : Slot → ℕ × ℤ
spot s = (s.place, s.register)

-- ---- at the making

abbrev pub empty : Listing
empty = record { code = []; labels = []; jumps = []; slots = [] }

abbrev pub start : Stage
start = record { mode = free; listing = empty }

-- ---- the answers

abbrev pub due : ℕ → Listing → Deed → Verdict
due size L (Emit i) = raised fault.Emit (emitted size (end L) (item_of i))
due size L (Constant l) = raised fault.Constant (constanted size (end L) (length L.slots) l.d l.value)
due size L (Jump t) = raised fault.Jump (jumped size (end L) (length L.jumps) t)
due size L (Bind l) = raised fault.Bind (bound (length L.labels) L.labels l)

-- the item that begins at the place p, the items beginning at another
abbrev pub item_at : ℕ → List Item → ℕ → Option Item
item_at at [] p = None
item_at at (i ∷ is) p = cond (p == at) (Some i) (item_at (at + length (words i)) is p)

-- over the jumps in order, the first that fails
abbrev pub sealed_from : ℕ → List (ℕ × ℕ) → List Item → List (ℕ × ℕ) → sealing.Verdict
sealed_from k ls code [] = Ok tt
sealed_from k ls code (j ∷ js) = jump_judged k j.0 (place_of ls j.1) (item_at 0 code j.0) (sealed_from (suc k) ls code js)

abbrev pub sealed_answer : ℕ → Listing → Verdict
sealed_answer size L = raised fault.Seal (cond (nat_le (end L) size) (sealed_from 0 L.labels L.code L.jumps) (Err seal.Full))

abbrev pub value_told : ℤ → Option Slot → Answer
value_told k None = Refused (fault.Value (value.NoSlot k))
value_told k (Some s) = Held s.value

-- what a call is answered, in a store of that size
abbrev pub judged : ℕ → Stage → Call → Answer
judged size s (Do d) = elim s.mode [ free ↦ told (due size s.listing d) | trying S ↦ told (due size s.listing d) | closed ↦ OutOfState ]
judged size s Try = elim s.mode [ free ↦ Taken | trying S ↦ OutOfState | closed ↦ OutOfState ]
judged size s Keep = elim s.mode [ free ↦ OutOfState | trying S ↦ Taken | closed ↦ OutOfState ]
judged size s GiveUp = elim s.mode [ free ↦ OutOfState | trying S ↦ Taken | closed ↦ OutOfState ]
judged size s Seal = elim s.mode [ free ↦ told (sealed_answer size s.listing) | trying S ↦ OutOfState | closed ↦ OutOfState ]
judged size s (Change es) = elim s.mode [ free ↦ OutOfState | trying S ↦ OutOfState | closed ↦ told (raised fault.Change (changed_answer size (end s.listing) (map spot s.listing.slots) es.now)) ]
judged size s (Value k) = elim s.mode [ free ↦ OutOfState | trying S ↦ OutOfState | closed ↦ value_told k (numbered s.listing.slots k) ]

-- ---- what a taken call makes of the listing

abbrev pub listed : Listing → Deed → Listing
listed L (Emit i) = record { code = L.code ++ (item_of i ∷ []); labels = L.labels; jumps = L.jumps; slots = L.slots }
listed L (Constant l) =
    record { code = L.code ++ (upper l.d l.value ∷ lower l.d l.value ∷ []); labels = L.labels; jumps = L.jumps; slots = L.slots ++ (record { place = end L; register = l.d; value = l.value } ∷ []) }
listed L (Jump t) = record { code = L.code ++ (jump_item t ∷ []); labels = L.labels; jumps = L.jumps ++ ((end L, label_number t.label) ∷ []); slots = L.slots }
listed L (Bind l) = record { code = L.code; labels = L.labels ++ ((label_number l, end L) ∷ []); jumps = L.jumps; slots = L.slots }

-- the jumps among the items, in order, with the distances to their labels
abbrev pub settled : List (ℕ × ℕ) → List Item → List (ℕ × ℕ) → List Item
settled ls [] js = []
settled ls (i ∷ is) [] = i ∷ is
settled ls (i ∷ is) (j ∷ js) = cond (jumps i) (aimed_at i (distance_to j.0 (place_of ls j.1)) ∷ settled ls is js) (i ∷ settled ls is (j ∷ js))

abbrev pub sealed : Listing → Listing
sealed L = record { code = settled L.labels L.code L.jumps; labels = L.labels; jumps = L.jumps; slots = L.slots }

-- the pair at the place p, with another value; the items begin at another place
abbrev pub with_pair : ℕ → ℤ → ℤ → ℕ → List Item → List Item
with_pair p d v at [] = []
with_pair p d v at (i ∷ is) = cond (p == at) (upper d v ∷ lower d v ∷ drop 1 is) (i ∷ with_pair p d v (at + length (words i)) is)

abbrev pub with_value : List Slot → ℕ → ℤ → List Slot
with_value [] k v = []
with_value (s ∷ ss) zero v = record { place = s.place; register = s.register; value = v } ∷ ss
with_value (s ∷ ss) (suc k) v = s ∷ with_value ss k v

abbrev pub pair_of : Option Slot → ℤ → List Item → List Item
pair_of None v code = code
pair_of (Some s) v code = with_pair s.place s.register v 0 code

-- the slot of that number given a value
abbrev pub given : Listing → ℕ → ℤ → Listing
given L k v = record { code = pair_of (slice_get L.slots k) v L.code; labels = L.labels; jumps = L.jumps; slots = with_value L.slots k v }

abbrev pub edited_at : Listing → ℤ → ℤ → Listing
edited_at L (pos k) v = given L k v
edited_at L (negsuc k) v = L

-- value and pair of each slot named
abbrev pub edited : Listing → List Edit → Listing
edited L [] = L
edited L (e ∷ es) = edited (edited_at L e.slot e.value) es

abbrev pub staged : Mode → Listing → Call → Stage
staged m L (Do d) = record { mode = m; listing = listed L d }
staged m L Try = record { mode = trying L; listing = L }
staged m L Keep = record { mode = free; listing = L }
staged m L GiveUp = record { mode = free; listing = elim m [ free ↦ L | trying S ↦ S | closed ↦ L ] }
staged m L Seal = record { mode = closed; listing = sealed L }
staged m L (Change es) = record { mode = m; listing = edited L es.now }
staged m L (Value k) = record { mode = m; listing = L }

-- a refused call adds nothing, nor does a value that is told, nor a call that the state does not take
abbrev pub moved : Stage → Call → Answer → Stage
moved s c Taken = staged s.mode s.listing c
moved s c (Held v) = s
moved s c (Refused e) = s
moved s c OutOfState = s
