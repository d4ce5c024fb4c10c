-- What a seal answers and what it leaves. Assumes nothing.
use Rattle.std.specs.Prelude.{◌≡◌, ℕ, zero, suc, ◌+◌, ◌%◌, Bool, true, false, cond, ◌&&◌, ◌||◌, List, [], ◌∷◌, ◌++◌, length, ℤ, pos, Some, None, Ok, Err, Option, Result, ◌==◌, nat_le, slice_index}
use Rattle.store.specs.Puts.{applied, puts}
use Rattle.records.specs.declared.counts.Counts.{Counts}
use Rattle.records.specs.declared.book.JumpRecord.{JumpRecord}
use Rattle.records.specs.declared.book.Book.{Book}
use Rattle.records.specs.Records.{place_of, labels_in}
use Rattle.items.specs.Items.{Item, words, in_reach, aimed_at, distance_of, distance, jump_standing}
use Rattle.sealing.specs.declared.faults.JumpCause.{JumpCause}
use Rattle.sealing.specs.declared.faults.JumpCause.TheVariants.{Unbound, OutOfReach, NoJump}
use Rattle.sealing.specs.declared.faults.SealFault.{SealFault}
use Rattle.sealing.specs.declared.faults.SealFault.TheVariants.{Full, Jump}

abbrev pub Verdict : Type 0
Verdict = Result (Unit {0}) SealFault

abbrev pub bad : ℕ → ℕ → JumpCause → Verdict
bad k p cause = Err (Jump (record { jump = k; place = p; cause = cause }))

-- ---- the test

-- The jump k at the place p: where its label is bound, which jump stands at the place, and what is said of those after it.
abbrev pub jump_judged : ℕ → ℕ → Option ℕ → Option Item → Verdict → Verdict
jump_judged k p None i rest = bad k p Unbound
jump_judged k p (Some q) None rest = bad k p NoJump
jump_judged k p (Some q) (Some i) rest = cond (in_reach i (distance p q)) rest (bad k p OutOfReach)

-- how many halfwords the word at a place has, by the low two bits of the first
abbrev pub size_at : List ℕ → ℕ → ℕ
size_at cells p = cond (slice_index cells p % 4 == 3) 2 1

-- two words share no halfword
abbrev pub two_apart : List ℕ → ℕ → ℕ → Bool
two_apart cells a b = nat_le (a + size_at cells a) b || nat_le (b + size_at cells b) a

-- the word at p shares none with those of the jumps js
abbrev pub apart : List ℕ → List (ℕ × ℕ) → ℕ → Bool
apart cells [] p = true
apart cells (j ∷ js) p = two_apart cells j.0 p && apart cells js p

-- the jump at a place, where it shares no halfword with another
abbrev pub where_apart : Bool → Option Item → Option Item
where_apart true i = i
where_apart false i = None

-- over the jumps in order, the first that fails: the labels, the store, how much of it is used, and the jumps before
abbrev pub tested_from : ℕ → List (ℕ × ℕ) → List ℕ → ℕ → List (ℕ × ℕ) → List (ℕ × ℕ) → Verdict
tested_from k ls cells used before [] = Ok tt
tested_from k ls cells used before (j ∷ js) =
    jump_judged k j.0 (place_of ls j.1) (where_apart (apart cells before j.0) (jump_standing cells used j.0))
    (tested_from (suc k) ls cells used (before ++ (j ∷ [])) js)

abbrev pub tested : List ℕ → ℕ → List (ℕ × ℕ) → List (ℕ × ℕ) → Verdict
tested cells used ls js = cond (nat_le used (length cells)) (tested_from 0 ls cells used [] js) (Err Full)

-- ---- what is put: every halfword of each jump's word, at the distance to its label

-- halfwords from a place up, if there are any
abbrev pub put_at : ℕ → Option (List ℕ) → List (ℕ × ℕ)
put_at p None = []
put_at p (Some hs) = puts p hs

abbrev pub aimed_puts : ℕ → Option ℕ → Option Item → List (ℕ × ℕ)
aimed_puts p None i = []
aimed_puts p (Some q) None = []
aimed_puts p (Some q) (Some i) = cond (in_reach i (distance p q)) (puts p (words (aimed_at i (distance p q)))) []

abbrev pub jump_puts : List (ℕ × ℕ) → ℕ → List ℕ → ℕ × ℕ → List (ℕ × ℕ)
jump_puts ls used cells j = aimed_puts j.0 (place_of ls j.1) (jump_standing cells used j.0)

abbrev pub seal_puts : List (ℕ × ℕ) → ℕ → List (ℕ × ℕ) → List ℕ → List (ℕ × ℕ)
seal_puts ls used [] cells = []
seal_puts ls used (j ∷ js) cells = jump_puts ls used cells j ++ seal_puts ls used js (applied (jump_puts ls used cells j) cells)

abbrev pub laid : List (ℕ × ℕ) → ℕ → List (ℕ × ℕ) → List ℕ → List ℕ
laid ls used js cells = applied (seal_puts ls used js cells) cells

-- ---- what is noted in the book: each jump's distance

abbrev pub distance_to : ℕ → Option ℕ → ℤ
distance_to p None = pos 0
distance_to p (Some q) = distance p q

abbrev pub settled_record : List (ℕ × ℕ) → JumpRecord → JumpRecord
settled_record ls r = record { place = r.place; label = r.label; distance = distance_to r.place (place_of ls r.label) }

-- the first n records
abbrev pub noted : List (ℕ × ℕ) → ℕ → List JumpRecord → List JumpRecord
noted ls zero rs = rs
noted ls (suc n) [] = []
noted ls (suc n) (r ∷ rs) = settled_record ls r ∷ noted ls n rs

abbrev pub settled_book : Counts → Book → Book
settled_book c b = record { labels = b.labels; jumps = noted (labels_in c b) c.jumps b.jumps; slots = b.slots }

-- ---- in the subject's words: each jump, by the bits at its place, leads to where its label is bound

abbrev pub EachAims : List (ℕ × ℕ) → ℕ → List ℕ → List (ℕ × ℕ) → Type 0
EachAims ls used cells [] = Unit {0}
EachAims ls used cells (j ∷ js) =
    ((q : ℕ) × (i : Item) × (place_of ls j.1 ≡ Some q) × (jump_standing cells used j.0 ≡ Some i) × (distance_of i ≡ distance j.0 q)) × EachAims ls used cells js
