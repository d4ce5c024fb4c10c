-- The words that are drawn: the upper halves of the states of a linear congruential generator of 64 bits.
use Rattle.std.specs.Prelude.{ℕ, zero, suc, ◌+◌, ◌*◌, ◌/◌, ◌%◌, ◌^◌}

abbrev pub stepped : ℕ → ℕ
stepped s = (s * 6364136223846793005 % 2 ^ 64 + 1442695040888963407) % 2 ^ 64

-- the state after n steps from 1
abbrev pub state_after : ℕ → ℕ
state_after zero = 1
state_after (suc n) = stepped (state_after n)

abbrev pub drawn : ℕ → ℕ
drawn n = state_after n / 2 ^ 32
