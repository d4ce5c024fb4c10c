-- What stands on something that may be missing.
use Rattle.std.specs.Prelude.{Option, option_and_then}

-- what is found, and then what follows from it: std's chain with the parts in the order in which they are read
abbrev pub found : {A B : Type 0} → Option A → (A → Option B) → Option B
found o k = option_and_then k o
