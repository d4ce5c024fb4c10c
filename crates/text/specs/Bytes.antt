use Rattle.std.specs.Prelude.{ℕ, List, ◌≢◌}
use Rattle.std.specs.List.{AllByRecursion}

-- no byte is `mark`
abbrev pub Without : ℕ → List ℕ → Type 0
Without mark xs = AllByRecursion (λ x. x ≢ mark) xs
