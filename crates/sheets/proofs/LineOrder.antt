-- Reading all lines first and answering their calls after gives what going line by line gives.
use Rattle.std.proofs.Common.{◌≡◌, ℕ, suc, ◌+◌, cond, List, [], ◌∷◌, length, Ok, Err, Result, sym, refl, ap, ◌∙◌, arith}
use Rattle.items.specs.Items.{item_of}
use Rattle.program.specs.declared.faults.EmitFault.{EmitFault}
use Rattle.calls.specs.declared.faults.ConstantFault.{ConstantFault}
use Rattle.calls.specs.declared.faults.PlaceFault.{PlaceFault}
use Rattle.calls.specs.declared.faults.BindFault.{BindFault}
use Rattle.calls.specs.Calls.{emitted, constanted, jumped, bound}
use Rattle.lives.specs.declared.types.Deed.{Deed}
use Rattle.lives.specs.declared.types.Deed.TheVariants.{Emit, Constant, Jump, Bind}
use Rattle.lives.specs.declared.types.Call.TheVariants.{Do, Seal}
use Rattle.lives.specs.declared.types.Fault.TheVariants as fault
use Rattle.lives.specs.declared.types.Answer.{Answer}
use Rattle.lives.specs.declared.types.Answer.TheVariants.{OutOfState}
use Rattle.lives.specs.Deeds.{raised, told}
use Rattle.lives.specs.Listing.{Listing, Mode, free, trying, closed, Stage, start, end, due, judged, moved}
use Rattle.lines.specs.declared.faults.LineFault.{LineFault}
use Rattle.lines.specs.declared.faults.SheetFault.{SheetFault}
use Rattle.sheets.specs.History.{accepted, at_line, come, jumps, jump_lines, at_jump, sealed, then, ended_by_seal}
use Rattle.sheets.specs.Entries.{calls, kept, answers, reached, call_lines, first_fault, outcome}

abbrev Told : Type 0
Told = Result (Unit {0}) SheetFault

-- ---- a line's call is refused at its own line

abbrev InPlace : List ℕ → ℕ → Answer → Type 0
InPlace js n a = ◌≡◌ {A = Told} (at_jump js n (accepted a) tt) (at_line n (accepted a) (λ u. Ok tt))

module _ (js : List ℕ) (n : ℕ) where
  emit_line : (r : Result (Unit {0}) EmitFault) → InPlace js n (told (raised fault.Emit r))
  emit_line (Ok u) = refl
  emit_line (Err e) = refl

  constant_line : (r : Result (Unit {0}) ConstantFault) → InPlace js n (told (raised fault.Constant r))
  constant_line (Ok u) = refl
  constant_line (Err e) = refl

  jump_line : (r : Result (Unit {0}) PlaceFault) → InPlace js n (told (raised fault.Jump r))
  jump_line (Ok u) = refl
  jump_line (Err e) = refl

  bind_line : (r : Result (Unit {0}) BindFault) → InPlace js n (told (raised fault.Bind r))
  bind_line (Ok u) = refl
  bind_line (Err e) = refl

  due_line : (size : ℕ) (L : Listing) (d : Deed) → InPlace js n (told (due size L d))
  due_line size L (Emit i) = emit_line (emitted size (end L) (item_of i))
  due_line size L (Constant l) = constant_line (constanted size (end L) (length L.slots) l.d l.value)
  due_line size L (Jump t) = jump_line (jumped size (end L) (length L.jumps) t)
  due_line size L (Bind l) = bind_line (bound (length L.labels) L.labels l)

  by_mode : (size : ℕ) (L : Listing) (d : Deed) (m : Mode) → InPlace js n (elim m [ free ↦ told (due size L d) | trying S ↦ told (due size L d) | closed ↦ OutOfState ])
  by_mode size L d free = due_line size L d
  by_mode size L d (trying S) = due_line size L d
  by_mode size L d closed = refl

  in_place : (size : ℕ) (s : Stage) (d : Deed) → InPlace js n (judged size s (Do d))
  in_place size s d = by_mode size s.listing d s.mode

  -- ---- one line more

  seal_ends : (r : Result (Unit {0}) LineFault) (x : Stage) → at_jump js n r x ≡ then (then {B = Unit {0}} (at_jump {A = Unit {0}} js n r tt) (λ u. Ok tt)) (λ u. Ok x)
  seal_ends (Ok u) x = refl
  seal_ends (Err e) x = refl

  goes_on : (r : Result (Unit {0}) LineFault) (x : Result Stage SheetFault) (y : Told) (k : Stage → Result Stage SheetFault) (q : Unit {0} → Result Stage SheetFault) → then x k ≡ then y q →
      then (at_line n r (λ u. x)) k ≡ then (then (at_line {B = Unit {0}} n r (λ u. Ok tt)) (λ u. y)) q
  goes_on (Ok u) x y k q h = h
  goes_on (Err e) x y k q h = refl

-- the calls of the lines from n on, where the line behind the last is m
from_line : (size : ℕ) (js : List ℕ) (n : ℕ) (s : Stage) (xs : List (Result Deed LineFault)) (m : ℕ) → m ≡ n + length xs →
    then (come size n s xs) (λ t. sealed size js m t) ≡ then (first_fault js n (answers size s (calls xs))) (λ u. then (kept n xs) (λ v. Ok (reached size s (calls xs))))
from_line size js n s [] m e =
    let a = judged size s Seal in
    let k : m ≡ n = omega (arith, e) in
    ap (λ i. sealed size js i s) k ∙ seal_ends js n (accepted a) (moved s Seal a)
from_line size js n s (Err x ∷ xs) m e = refl
from_line size js n s (Ok d ∷ xs) m e =
    let a = judged size s (Do d) in
    let t = moved s (Do d) a in
    let rest = first_fault js (suc n) (answers size t (calls xs)) in
    let all : Unit {0} → Result Stage SheetFault = λ u. then (kept (suc n) xs) (λ v. Ok (reached size t (calls xs))) in
    goes_on js n (accepted a) (come size (suc n) t xs) rest (λ t. sealed size js m t) all (from_line size js (suc n) t xs m (omega (arith, e)))
    ∙ ap (λ (p : Told). then (then p (λ u. rest)) all) (sym (in_place js n size s d))

-- ---- the whole

call_lines_are : (n : ℕ) (xs : List (Result Deed LineFault)) → call_lines n (calls xs) ≡ jump_lines n xs
call_lines_are n [] = refl
call_lines_are n (Err e ∷ xs) = refl
call_lines_are n (Ok d ∷ xs) = ap (λ js. cond (jumps d) (n ∷ js) js) (call_lines_are (suc n) xs)

then_then : (r : Told) (s : Stage) (k : Stage → Result Stage SheetFault) → then r (λ u. k s) ≡ then (then r (λ u. Ok s)) k
then_then (Ok u) s k = refl
then_then (Err e) s k = refl

pub by_calls : (size : ℕ) (xs : List (Result Deed LineFault)) → ended_by_seal size xs ≡ then (outcome size (calls xs)) (λ s. then (kept 2 xs) (λ v. Ok s))
by_calls size xs =
    let s = reached size start (calls xs) in
    let js = jump_lines 2 xs in
    from_line size js 2 start xs (2 + length xs) refl
    ∙ then_then (first_fault js 2 (answers size start (calls xs))) s (λ s. then (kept 2 xs) (λ v. Ok s))
    ∙ ap (λ js. then (then (first_fault js 2 (answers size start (calls xs))) (λ u. Ok s)) (λ s. then (kept 2 xs) (λ v. Ok s))) (sym (call_lines_are 2 xs))

-- a refused call is the answer
pub refused_comes : (size : ℕ) (xs : List (Result Deed LineFault)) (e : SheetFault) → outcome size (calls xs) ≡ Err e → ended_by_seal size xs ≡ Err e
refused_comes size xs e h = by_calls size xs ∙ ap (λ o. then o (λ s. then (kept 2 xs) (λ v. Ok s))) h

-- where none is, a line that says no call
pub kept_comes : (size : ℕ) (xs : List (Result Deed LineFault)) (s : Stage) (e : SheetFault) → outcome size (calls xs) ≡ Ok s → kept 2 xs ≡ Err e → ended_by_seal size xs ≡ Err e
kept_comes size xs s e h k =
    by_calls size xs ∙ ap (λ o. then o (λ s. then (kept 2 xs) (λ v. Ok s))) h ∙ ap (λ (r : Told). then r (λ v. Ok s)) k

-- and where none is, the stage
pub stage_comes : (size : ℕ) (xs : List (Result Deed LineFault)) (s : Stage) → outcome size (calls xs) ≡ Ok s → kept 2 xs ≡ Ok tt → ended_by_seal size xs ≡ Ok s
stage_comes size xs s h k =
    by_calls size xs ∙ ap (λ o. then o (λ s. then (kept 2 xs) (λ v. Ok s))) h ∙ ap (λ (r : Told). then r (λ v. Ok s)) k
