use Rattle.std.proofs.Common.{◌≡◌, ◌^◌, ◌<◌, drop}
use Rattle.text.specs.Numbers.{value_after, under}
use Rattle.text.proofs.numbers.digits_value.Given as goal

abbrev pub invariant-loop-b : goal.invariant-loop-b
invariant-loop-b l = (l.n < 2 ^ 64) × (under (2 ^ 64) (value_after l.n (drop l.b-index l.bytes)) ≡ under (2 ^ 64) (value_after 0 l.bytes))
