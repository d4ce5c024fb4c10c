-- A sheet's calls as a list of entries, and what their answers say.
use Rattle.std.specs.Prelude.{◌≡◌, ℕ, suc, ◌≤◌, Bool, false, cond, List, [], ◌∷◌, take, Ok, Err, Result}
use Rattle.items.specs.Items.{halfs, AllLawful}
use Rattle.lives.specs.declared.types.Deed.{Deed}
use Rattle.lives.specs.declared.types.Call.{Call}
use Rattle.lives.specs.declared.types.Call.TheVariants.{Do, Try, Keep, GiveUp, Seal, Change, Value}
use Rattle.lives.specs.declared.types.Answer.{Answer}
use Rattle.lives.specs.declared.types.Entry.{Entry}
use Rattle.lives.specs.Life.{given_up}
use Rattle.lives.specs.Listing.{Stage, start, end, judged, moved}
use Rattle.lines.specs.declared.faults.LineFault.{LineFault}
use Rattle.lines.specs.declared.faults.SheetFault.{SheetFault}
use Rattle.sheets.specs.History.{accepted, jumps, at_jump, then}

-- ---- the calls

-- those of the lines before the first that says none, and the seal behind them where every line says one
abbrev pub calls : List (Result Deed LineFault) → List Call
calls [] = Seal ∷ []
calls (Err e ∷ xs) = []
calls (Ok d ∷ xs) = Do d ∷ calls xs

-- the same without the seal
abbrev pub deeds : List (Result Deed LineFault) → List Deed
deeds [] = []
deeds (Err e ∷ xs) = []
deeds (Ok d ∷ xs) = d ∷ deeds xs

-- the first line that says none, the lines having the numbers from n on
abbrev pub kept : ℕ → List (Result Deed LineFault) → Result (Unit {0}) SheetFault
kept n [] = Ok tt
kept n (Err e ∷ xs) = Err (record { line = n; fault = e })
kept n (Ok d ∷ xs) = kept (suc n) xs

-- ---- their answers

abbrev pub answer_of : Entry → Answer
answer_of e = e.answer

-- each call is answered as the listing of the history so far says
abbrev pub answers : ℕ → Stage → List Call → List Answer
answers size s [] = []
answers size s (c ∷ cs) = judged size s c ∷ answers size (moved s c (judged size s c)) cs

abbrev pub reached : ℕ → Stage → List Call → Stage
reached size s [] = s
reached size s (c ∷ cs) = reached size (moved s c (judged size s c)) cs

-- ---- the first refused call

abbrev pub call_jumps : Call → Bool
call_jumps (Do d) = jumps d
call_jumps Try = false
call_jumps Keep = false
call_jumps GiveUp = false
call_jumps Seal = false
call_jumps (Change es) = false
call_jumps (Value k) = false

-- the lines of the calls that jump, the first call having the number n
abbrev pub call_lines : ℕ → List Call → List ℕ
call_lines n [] = []
call_lines n (c ∷ cs) = cond (call_jumps c) (n ∷ call_lines (suc n) cs) (call_lines (suc n) cs)

-- over the lines of the jumps; the first call has the number n
abbrev pub first_fault : List ℕ → ℕ → List Answer → Result (Unit {0}) SheetFault
first_fault js n [] = Ok tt
first_fault js n (a ∷ rest) = then (at_jump {A = Unit {0}} js n (accepted a) tt) (λ u. first_fault js (suc n) rest)

-- the stage after the calls, or the first fault
abbrev pub outcome : ℕ → List Call → Result Stage SheetFault
outcome size cs = then (first_fault (call_lines 2 cs) 2 (answers size start cs)) (λ u. Ok (reached size start cs))

-- ---- a history in a store

-- the first halfwords are those of the listing's items, each a lawful instruction
pub record Holds (s : Stage) (cells : List ℕ) : Type 0 where
  pub words : take (end s.listing) cells ≡ halfs s.listing.code
  pub lawful : AllLawful s.listing.code

-- where no call is refused, the stage stands in the store, and so many halfwords are used
abbrev pub Answered : Result Stage SheetFault → Result ℕ SheetFault → List ℕ → Type 0
Answered x (Ok used) cells = (s : Stage) × ((x ≡ Ok s) × (used ≡ end (given_up s).listing) × Holds s cells)
Answered x (Err e) cells = x ≡ Err e

-- an answer is the one that the history gives; where that is a stage, it is how many halfwords its listing has, no more than the store has, and they stand there
abbrev pub Comes : ℕ → Result Stage SheetFault → Result ℕ SheetFault → List ℕ → Type 0
Comes size x (Ok used) cells = (s : Stage) × ((x ≡ Ok s) × (used ≡ end s.listing) × (used ≤ size) × Holds s cells)
Comes size x (Err e) cells = x ≡ Err e
