-- The halfword at a place, 0 outside.
use Rattle.std.proofs.Common.{◌≡◌, ℕ, List, slice_index}
use Rattle.std.specs.List.{slice_get}
use Rattle.std.specs.Option.{unwrap_or}
use Rattle.std.proofs.lemmas.Option.{unwrap_or-slice_get}

pub get_or : (xs : List ℕ) (i : ℕ) → unwrap_or (slice_get xs i) 0 ≡ slice_index xs i
get_or xs i = unwrap_or-slice_get xs i 0
