-- Answers about pairs, in the terms of a listing. Assumes nothing.
use Rattle.std.proofs.Common.{◌≡◌, true, false, ℤ, Some, None, Option, MatchOption}
use Rattle.operands.specs.Ranges.{Makeable, made}
use Rattle.operands.specs.declared.imms.Signed.{Signed}
use Rattle.pairs.proofs.Generated.{generated_makeable, generated_none}
use Rattle.items.specs.Pairs.{makeable}

pub generated : (o : Option (Signed 20 × Signed 12)) (v : ℤ) → MatchOption o (Makeable v → ⊥) (λ p. made p.0.value p.1.value ≡ v) → MatchOption o (makeable v ≡ false) (λ p. (makeable v ≡ true) × (made p.0.value p.1.value ≡ v))
unfolding makeable
generated None v h = generated_none v h
generated (Some p) v h = (generated_makeable v p.0 p.1 h, h)
