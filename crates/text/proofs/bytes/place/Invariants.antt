use Rattle.std.proofs.Common.{◌≡◌, ◌==◌, position, drop}
use Rattle.std.specs.List.{position_from}
use Rattle.text.proofs.bytes.place.Given as goal

abbrev pub invariant-loop-k : goal.invariant-loop-k
invariant-loop-k l = position_from (λ b. b == l.mark) l.k (drop l.k l.bytes) ≡ position (λ b. b == l.mark) l.bytes
