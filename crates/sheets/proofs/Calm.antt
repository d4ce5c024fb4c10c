-- A sheet's calls end outside any try, and what they use lies in the store.
use Rattle.std.proofs.Common.{◌≡◌, ℕ, ◌≤◌, List, [], ◌∷◌, length, Ok, Err, Result, refl, ap, subst, arith, length-take}
use Rattle.lives.specs.declared.types.Deed.{Deed}
use Rattle.lives.specs.declared.types.Call.TheVariants.{Do, Seal}
use Rattle.lives.specs.declared.types.Answer.{Answer}
use Rattle.lives.specs.declared.types.Answer.TheVariants.{Taken, Held, Refused, OutOfState}
use Rattle.lives.specs.Life.{given_up}
use Rattle.lives.specs.Listing.{Listing, free, Stage, start, empty, end, judged, moved, listed}
use Rattle.lines.specs.declared.faults.LineFault.{LineFault}
use Rattle.lines.specs.declared.faults.SheetFault.{SheetFault}
use Rattle.sheets.specs.History.{then}
use Rattle.sheets.specs.Entries.{calls, answers, reached, call_lines, first_fault, outcome, Holds}

abbrev at : Listing → Stage
at L = record { mode = free; listing = L }

sealed_calm : (L : Listing) (a : Answer) → given_up (moved (at L) Seal a) ≡ moved (at L) Seal a
sealed_calm L Taken = refl
sealed_calm L (Held v) = refl
sealed_calm L (Refused e) = refl
sealed_calm L OutOfState = refl

-- past a deed, if it holds of the listing with it and of the one without
deed_calm : (P : Stage → Type 0) (L : Listing) (d : Deed) (a : Answer) → ((M : Listing) → P (at M)) → P (moved (at L) (Do d) a)
deed_calm P L d Taken h = h (listed L d)
deed_calm P L d (Held v) h = h L
deed_calm P L d (Refused e) h = h L
deed_calm P L d OutOfState h = h L

calm_from : (size : ℕ) (xs : List (Result Deed LineFault)) (L : Listing) → given_up (reached size (at L) (calls xs)) ≡ reached size (at L) (calls xs)
calm_from size [] L = sealed_calm L (judged size (at L) Seal)
calm_from size (Err e ∷ xs) L = refl
calm_from size (Ok d ∷ xs) L = deed_calm (λ s. given_up (reached size s (calls xs)) ≡ reached size s (calls xs)) L d (judged size (at L) (Do d)) (calm_from size xs)

-- where no call is refused
then_stage : (r : Result (Unit {0}) SheetFault) (t s : Stage) → then r (λ u. Ok t) ≡ Ok s → t ≡ s
then_stage (Ok u) t s h = cc
then_stage (Err e) t s h = grind (arith, h)

pub calm : (size : ℕ) (xs : List (Result Deed LineFault)) (s : Stage) → outcome size (calls xs) ≡ Ok s → given_up s ≡ s
calm size xs s h =
    let t = then_stage (first_fault (call_lines 2 (calls xs)) 2 (answers size start (calls xs))) (reached size start (calls xs)) s h in
    subst (λ x. given_up x ≡ x) t (calm_from size xs empty)

pub fits : (s : Stage) (cells : List ℕ) → Holds s cells → end s.listing ≤ length cells
fits s cells h = omega (arith, length-take (end s.listing) cells, ap length h.words)
