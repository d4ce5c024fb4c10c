-- What an answer says of the place. Assumes nothing.
use Rattle.std.proofs.Common.{◌≡◌, ℕ, ◌≤◌, List, length, Err, arith}
use Rattle.std.proofs.lemmas.Bool.Decides.{nat_tests}
use Rattle.store.specs.declared.store.StoreFault.{StoreFault}
use Rattle.store.specs.Answers.{put_answer}

-- a refused put was outside
pub refused_outside : (xs : List ℕ) (p : ℕ) (e : StoreFault) → Err e ≡ put_answer xs p → length xs ≤ p
refused_outside xs p e was = grind (arith, nat_tests)
