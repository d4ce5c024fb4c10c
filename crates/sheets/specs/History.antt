-- The history of a sheet's program, worked out from its lines: each line's call, what the program's listing answers it, and the first fault in the order of the lines. Assumes nothing.
use Rattle.std.specs.Prelude.{ℕ, suc, ◌+◌, Bool, true, false, cond, List, [], ◌∷◌, map, length, Some, None, Option, Ok, Err, Result}
use Rattle.std.specs.List.{slice_get}
use Rattle.std.specs.Option.{unwrap_or}
use Rattle.text.specs.Lines.{Line, ended, unended}
use Rattle.sealing.specs.declared.faults.SealFault.TheVariants as seal
use Rattle.lives.specs.declared.types.Deed.{Deed}
use Rattle.lives.specs.declared.types.Deed.TheVariants as deed
use Rattle.lives.specs.declared.types.Call.TheVariants.{Do, Seal}
use Rattle.lives.specs.declared.types.Fault.{Fault}
use Rattle.lives.specs.declared.types.Fault.TheVariants as fault
use Rattle.lives.specs.declared.types.Answer.{Answer}
use Rattle.lives.specs.declared.types.Answer.TheVariants.{Taken, Held, Refused, OutOfState}
use Rattle.lives.specs.Listing.{Stage, start, judged, moved}
use Rattle.lines.specs.declared.columns.Columns.{Columns}
use Rattle.lines.specs.declared.faults.LineFault.{LineFault}
use Rattle.lines.specs.declared.faults.LineFault.TheVariants as line
use Rattle.lines.specs.declared.faults.SheetFault.{SheetFault}
use Rattle.lines.specs.Names.{named_columns}
use Rattle.lines.specs.Deeds.{said}

-- ---- the lines' calls

-- what a line says, if it is ended
abbrev pub says : Columns → Line → Result Deed LineFault
says c (ended t) = said c t
says c (unended t) = Err line.NoNewline

-- ---- their answers

-- why a call is refused, as a fault of its line; a sheet has no line that changes a constant or asks for one
abbrev pub refused : Fault → Result (Unit {0}) LineFault
refused (fault.Emit e) = Err (line.Emit e)
refused (fault.Constant e) = Err (line.Constant e)
refused (fault.Jump e) = Err (line.Jump e)
refused (fault.Bind e) = Err (line.Bind e)
refused (fault.Seal e) = Err (line.Seal e)
refused (fault.Change e) = Ok tt
refused (fault.Value e) = Ok tt

abbrev pub accepted : Answer → Result (Unit {0}) LineFault
accepted Taken = Ok tt
accepted (Held v) = Ok tt
accepted (Refused e) = refused e
accepted OutOfState = Ok tt

-- a fault gets its line's number
abbrev pub at_line : {A B : Type 0} → ℕ → Result A LineFault → (A → Result B SheetFault) → Result B SheetFault
at_line n (Ok x) k = k x
at_line n (Err e) k = Err (record { line = n; fault = e })

-- Line by line, from the number n on, in a store of that size, at a stage of the program's history: each line gives a call, which the listing answers and then has taken in. The stage at the end, or the first fault.
abbrev pub come : ℕ → ℕ → Stage → List (Result Deed LineFault) → Result Stage SheetFault
come size n s [] = Ok s
come size n s (Err e ∷ ls) = Err (record { line = n; fault = e })
come size n s (Ok d ∷ ls) = at_line n (accepted (judged size s (Do d))) (λ u. come size (suc n) (moved s (Do d) (judged size s (Do d))) ls)

-- ---- the seal

abbrev pub jumps : Deed → Bool
jumps (deed.Emit i) = false
jumps (deed.Constant l) = false
jumps (deed.Jump t) = true
jumps (deed.Bind l) = false

-- the numbers of the lines that jump, in order, up to the first that says no call
abbrev pub jump_lines : ℕ → List (Result Deed LineFault) → List ℕ
jump_lines n [] = []
jump_lines n (Err e ∷ xs) = []
jump_lines n (Ok d ∷ xs) = cond (jumps d) (n ∷ jump_lines (suc n) xs) (jump_lines (suc n) xs)

-- a seal's line is that of the jump that fails, and the one behind the last where it is no jump
abbrev pub seal_line : List ℕ → ℕ → LineFault → ℕ
seal_line js n (line.Seal (seal.Jump bad)) = unwrap_or (slice_get js bad.jump) n
seal_line js n (line.Seal seal.Full) = n
seal_line js n line.Names = n
seal_line js n (line.FieldCount k) = n
seal_line js n line.NoNewline = n
seal_line js n line.UnknownOperation = n
seal_line js n (line.NoNumber f) = n
seal_line js n (line.Unused f x) = n
seal_line js n (line.Emit e) = n
seal_line js n (line.Constant e) = n
seal_line js n (line.Jump e) = n
seal_line js n (line.Bind e) = n

abbrev pub at_jump : {A : Type 0} → List ℕ → ℕ → Result (Unit {0}) LineFault → A → Result A SheetFault
at_jump js n (Ok u) x = Ok x
at_jump js n (Err e) x = Err (record { line = seal_line js n e; fault = e })

-- the lines of the jumps, and the number behind the last line
abbrev pub sealed : ℕ → List ℕ → ℕ → Stage → Result Stage SheetFault
sealed size js n s = at_jump js n (accepted (judged size s Seal)) (moved s Seal (judged size s Seal))

-- ---- the sheet

abbrev pub then : {A B : Type 0} → Result A SheetFault → (A → Result B SheetFault) → Result B SheetFault
then (Ok x) k = k x
then (Err e) k = Err e

-- the lines' calls in order, and the seal
abbrev pub ended_by_seal : ℕ → List (Result Deed LineFault) → Result Stage SheetFault
ended_by_seal size xs = then (come size 2 start xs) (λ s. sealed size (jump_lines 2 xs) (2 + length xs) s)

-- the columns that a line names, if it is ended
abbrev pub named_by : Line → Option Columns
named_by (ended t) = named_columns t
named_by (unended t) = None

-- the first line names the columns, the others have the numbers from 2 on
abbrev pub by_columns : ℕ → Option Columns → List Line → Result Stage SheetFault
by_columns size None ls = Err (record { line = 1; fault = line.Names })
by_columns size (Some c) ls = ended_by_seal size (map (says c) ls)

abbrev pub history : ℕ → List Line → Result Stage SheetFault
history size [] = Err (record { line = 1; fault = line.Names })
history size (l ∷ ls) = by_columns size (named_by l) ls
