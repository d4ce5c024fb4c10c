-- A script over bytes, and over zeros. Assumes nothing.
use Rattle.std.proofs.Common.{◌≡◌, ℕ, ◌*◌, ◌≤◌, List, replicate, take, Ok, Err, Result, Option, subst, MatchResult, IfOk, Some, IfErr}
use Rattle.std.proofs.lemmas.List.{take-replicate}
use Rattle.store.specs.Halves.{held}
use Rattle.text.specs.Lines.{Line}
use Rattle.scripts.specs.declared.faults.ScriptFault.{ScriptFault}
use Rattle.scripts.specs.declared.faults.ScriptFault.TheVariants.{TooLong, Io}
use Rattle.scripts.specs.Script.{says}
use Rattle.scripts.specs.Answered.{Answered, Untouched}
use Rattle.scripts.specs.Whole.{OnStore, OnZeros, Refused}

pub bytes_run : {E : Type 0} (Q : E → Type 0) (r : Result (Unit {0}) E) (ls : List Line) (first cells : List ℕ) (old new : Option (List ℕ)) (m : List ℕ) → MatchResult r (λ u. Answered ls first cells old new) Q →
    first ≡ held 0 m → IfOk r (λ u. OnStore ls (held 0 m) old new)
bytes_run Q (Ok u) ls first cells old new m a e = (cells, subst (λ f. Answered ls f cells old new) e a)
bytes_run Q (Err x) ls first cells old new m a e = tt

pub zeros_run : {E : Type 0} (r : Result (Unit {0}) E) (ls : List Line) (old new : Option (List ℕ)) (n : ℕ) → 2 * n ≤ 65536 → IfOk r (λ u. OnStore ls (held 0 (take (2 * n) (replicate 65536 0))) old new) → IfOk r (λ u. OnZeros ls n old new)
zeros_run r ls old new n h a = subst (λ m. IfOk r (λ u. OnStore ls (held 0 m) old new)) (take-replicate (2 * n) 65536 0 h) a

pub run_refused : (P : Unit {0} → Type 0) (r : Result (Unit {0}) ScriptFault) (ls : List Line) (n : ℕ) (first cells : List ℕ) (old new : Option (List ℕ)) → MatchResult r P (λ e. Untouched e (says ls) first cells old new) →
    IfErr r (λ e. Refused e (Some (n, ls)) old new)
run_refused P (Ok u) ls n first cells old new a = tt
run_refused P (Err TooLong) ls n first cells old new a = (a.0, a.2)
run_refused P (Err (Io e)) ls n first cells old new a = tt
