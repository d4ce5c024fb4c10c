-- The calls that an open program and a try take: their answers over counts, book and store, and what they leave. Assumes nothing.
use Rattle.std.specs.Prelude.{ℕ, List, [], length, ℤ, Ok, Err, Result}
use Rattle.store.specs.Answers.{when}
use Rattle.store.specs.Puts.{applied, puts}
use Rattle.records.specs.declared.counts.Counts.{Counts}
use Rattle.records.specs.declared.book.Book.{Book}
use Rattle.records.specs.Records.{more_used, more_labels, more_jumps, more_slots, label_in, jump_in, slot_in, labels_in, slots_in}
use Rattle.items.specs.Items.{item_of, words}
use Rattle.items.specs.Pairs.{pair}
use Rattle.calls.specs.Calls.{emitted, constanted, jumped, bound, jump_item, label_number}
use Rattle.changing.specs.declared.faults.ValueFault.{ValueFault}
use Rattle.changing.specs.Changing.{changed_answer, edit_puts, valued}
use Rattle.lives.specs.declared.types.Deed.{Deed}
use Rattle.lives.specs.declared.types.Deed.TheVariants.{Emit, Constant, Jump, Bind}
use Rattle.lives.specs.declared.types.Call.{Call}
use Rattle.lives.specs.declared.types.Call.TheVariants.{Do, Try, Keep, GiveUp, Seal, Change, Value}
use Rattle.lives.specs.declared.types.Fault.{Fault}
use Rattle.lives.specs.declared.types.Fault.TheVariants as fault
use Rattle.lives.specs.declared.types.Answer.{Answer}
use Rattle.lives.specs.declared.types.Answer.TheVariants.{Taken, Held, Refused, OutOfState}

abbrev pub Verdict : Type 0
Verdict = Result (Unit {0}) Fault

-- a call's own fault, as a fault of the life
abbrev pub raised : {F : Type 0} → (F → Fault) → Result (Unit {0}) F → Verdict
raised f (Ok u) = Ok u
raised f (Err e) = Err (f e)

abbrev pub told : Verdict → Answer
told (Ok u) = Taken
told (Err e) = Refused e

-- what a slot holds, as an answer
abbrev pub told_value : Result ℤ ValueFault → Answer
told_value (Ok v) = Held v
told_value (Err e) = Refused (fault.Value e)

-- what a deed answers, in a store of that size
abbrev pub answered : ℕ → Counts → Book → Deed → Verdict
answered size c b (Emit i) = raised fault.Emit (emitted size c.used (item_of i))
answered size c b (Constant l) = raised fault.Constant (constanted size c.used c.slots l.d l.value)
answered size c b (Jump t) = raised fault.Jump (jumped size c.used c.jumps t)
answered size c b (Bind l) = raised fault.Bind (bound c.labels (labels_in c b) l)

-- what it leaves where it is taken
abbrev pub counts_by : Deed → Counts → Counts
counts_by (Emit i) c = more_used c (length (words (item_of i)))
counts_by (Constant l) c = more_slots c
counts_by (Jump t) c = more_jumps c (length (words (jump_item t)))
counts_by (Bind l) c = more_labels c

abbrev pub book_by : Deed → Counts → Book → Book
book_by (Emit i) c b = b
book_by (Constant l) c b = slot_in b c.slots c.used l.d
book_by (Jump t) c b = jump_in b c.jumps c.used (label_number t.label)
book_by (Bind l) c b = label_in b c.labels (label_number l) c.used

-- the halfwords that it puts behind those used
abbrev pub words_by : Deed → List ℕ
words_by (Emit i) = words (item_of i)
words_by (Constant l) = pair l.d l.value
words_by (Jump t) = words (jump_item t)
words_by (Bind l) = []

abbrev pub puts_by : Deed → Counts → List (ℕ × ℕ)
puts_by d c = puts c.used (words_by d)

abbrev pub cells_by : Deed → Counts → List ℕ → List ℕ
cells_by d c cells = applied (puts_by d c) cells

-- ---- the calls that a sealed program takes: its answers, and the store after them

abbrev pub answered_sealed : List ℕ → Counts → Book → Call → Answer
answered_sealed cells c b (Do d) = OutOfState
answered_sealed cells c b Try = OutOfState
answered_sealed cells c b Keep = OutOfState
answered_sealed cells c b GiveUp = OutOfState
answered_sealed cells c b Seal = OutOfState
answered_sealed cells c b (Change es) = told (raised fault.Change (changed_answer (length cells) c.used (slots_in c b) es.now))
answered_sealed cells c b (Value k) = told_value (valued cells c.used (slots_in c b) k)

abbrev pub cells_sealed : List ℕ → Counts → Book → Call → List ℕ
cells_sealed cells c b (Do d) = cells
cells_sealed cells c b Try = cells
cells_sealed cells c b Keep = cells
cells_sealed cells c b GiveUp = cells
cells_sealed cells c b Seal = cells
cells_sealed cells c b (Change es) = applied (when (changed_answer (length cells) c.used (slots_in c b) es.now) (edit_puts (slots_in c b) c.used es.now) []) cells
cells_sealed cells c b (Value k) = cells
