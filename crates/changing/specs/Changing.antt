-- What a change and a value answer, and what a change leaves. Assumes nothing.
use Rattle.std.specs.Prelude.{ℕ, suc, ◌+◌, Bool, false, cond, ◌&&◌, List, [], ◌∷◌, ◌++◌, length, ℤ, pos, negsuc, Some, None, Ok, Err, Option, Result, nat_le}
use Rattle.std.specs.Ordering.{int_eq}
use Rattle.std.specs.List.{slice_get, list_any}
use Rattle.store.specs.Puts.{applied, puts}
use Rattle.records.specs.declared.book.SlotRecord.{SlotRecord}
use Rattle.records.specs.Records.{slot_of}
use Rattle.items.specs.Pairs.{register_ok, makeable, pair, held_at}
use Rattle.changing.specs.declared.edits.Edit.{Edit}
use Rattle.changing.specs.declared.faults.EntryCause.{EntryCause}
use Rattle.changing.specs.declared.faults.EntryCause.TheVariants as entry
use Rattle.changing.specs.declared.faults.ChangeFault.{ChangeFault}
use Rattle.changing.specs.declared.faults.ChangeFault.TheVariants as change
use Rattle.changing.specs.declared.faults.ValueFault.{ValueFault}
use Rattle.changing.specs.declared.faults.ValueFault.TheVariants as value

abbrev pub Verdict : Type 0
Verdict = Result (Unit {0}) ChangeFault

-- a number counted from 0
abbrev pub index : ℤ → Option ℕ
index (pos k) = Some k
index (negsuc k) = None

abbrev pub nth_if : {A : Type 0} → List A → Option ℕ → Option A
nth_if xs None = None
nth_if xs (Some k) = slice_get xs k

-- the one of that number: none where there is no such number
abbrev pub numbered : {A : Type 0} → List A → ℤ → Option A
numbered xs z = nth_if xs (index z)

-- a slot's record as place and register
abbrev pub spot_of : Option SlotRecord → Option (ℕ × ℤ)
spot_of None = None
spot_of (Some s) = Some (slot_of s)

-- a slot, as place and register, whose four halfwords lie inside the used ones
abbrev pub inside : ℕ → Option (ℕ × ℤ) → Bool
inside used None = false
inside used (Some s) = nat_le (s.0 + 4) used && register_ok s.1

-- an entry names that slot
abbrev pub named : List Edit → ℤ → Bool
named es s = list_any (λ e. int_eq e.slot s) es

-- what is wrong with an entry: whether its slot is there, and whether it was named before
abbrev pub entry_judged : Bool → Bool → Edit → Result (Unit {0}) EntryCause
entry_judged there before e =
    cond there (cond before (Err (entry.Again e.slot)) (cond (makeable e.value) (Ok tt) (Err (entry.Range e.value)))) (Err (entry.NoSlot e.slot))

abbrev pub bad : ℕ → EntryCause → Verdict
bad k cause = Err (change.Entry (record { entry = k; cause = cause }))

-- the entry k, and what is said of the entries after it
abbrev pub or_bad : ℕ → Result (Unit {0}) EntryCause → Verdict → Verdict
or_bad k (Ok u) rest = rest
or_bad k (Err cause) rest = bad k cause

abbrev pub edit_judged : ℕ → Bool → Bool → Edit → Verdict → Verdict
edit_judged k there before e rest = or_bad k (entry_judged there before e) rest

-- over the entries in order, the first that fails: the slots, how much is used, and the entries before
abbrev pub changed_from : ℕ → List (ℕ × ℤ) → ℕ → List Edit → List Edit → Verdict
changed_from k slots used before [] = Ok tt
changed_from k slots used before (e ∷ es) =
    edit_judged k (inside used (numbered slots e.slot)) (named before e.slot) e (changed_from (suc k) slots used (before ++ (e ∷ [])) es)

-- in a store of that size
abbrev pub changed_answer : ℕ → ℕ → List (ℕ × ℤ) → List Edit → Verdict
changed_answer size used slots es = cond (nat_le used size) (changed_from 0 slots used [] es) (Err change.Full)

-- ---- what is put: the pair of each entry's slot, with its new value

-- four halfwords from a place up
abbrev pub written : Option (ℕ × List ℕ) → List (ℕ × ℕ)
written None = []
written (Some w) = puts w.0 w.1

abbrev pub pair_puts : ℕ → ℤ → Option (ℕ × ℤ) → List (ℕ × ℕ)
pair_puts used v None = []
pair_puts used v (Some s) = cond (inside used (Some s) && makeable v) (puts s.0 (pair s.1 v)) []

abbrev pub edit_puts : List (ℕ × ℤ) → ℕ → List Edit → List (ℕ × ℕ)
edit_puts slots used [] = []
edit_puts slots used (e ∷ es) = pair_puts used e.value (numbered slots e.slot) ++ edit_puts slots used es

abbrev pub changed : List (ℕ × ℤ) → ℕ → List Edit → List ℕ → List ℕ
changed slots used es cells = applied (edit_puts slots used es) cells

-- ---- a slot's value, by the bits at its place

abbrev pub held_in : ℤ → ℕ → List ℕ → Option (ℕ × ℤ) → Result ℤ ValueFault
held_in k used cells None = Err (value.NoSlot k)
held_in k used cells (Some s) = cond (nat_le (s.0 + 4) used) (Ok (held_at cells s.0)) (Err (value.NoSlot k))

abbrev pub valued : List ℕ → ℕ → List (ℕ × ℤ) → ℤ → Result ℤ ValueFault
valued cells used slots k = cond (nat_le used (length cells)) (held_in k used cells (numbered slots k)) (Err value.Full)
