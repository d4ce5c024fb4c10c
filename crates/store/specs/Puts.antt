-- What a row of puts leaves of a list of halfwords. Assumes nothing.
use Rattle.std.specs.Prelude.{ℕ, suc, List, [], ◌∷◌, slice_set}

-- the list after puts of (place, halfword), in their order
abbrev pub applied : List (ℕ × ℕ) → List ℕ → List ℕ
applied [] xs = xs
applied (p ∷ ps) xs = applied ps (slice_set xs p.0 p.1)

-- halfwords put from the place p up
abbrev pub puts : ℕ → List ℕ → List (ℕ × ℕ)
puts p [] = []
puts p (h ∷ hs) = (p, h) ∷ puts (suc p) hs
