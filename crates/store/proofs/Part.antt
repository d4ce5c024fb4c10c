-- Laws of a part of a list. Assumes nothing.
use Rattle.std.proofs.Common.{◌≡◌, ℕ, ◌+◌, ◌-◌, ◌<◌, ◌≤◌, min, List, length, take, drop, set, Some, None, sym, ap, ◌∙◌, arith, length-drop, length-take}
use Rattle.std.specs.List.{slice_get}
use Rattle.std.proofs.lemmas.List.{drop-set-add, get_or-take, get_or-drop}
use Rattle.std.proofs.lemmas.Option.{slice_get-get_or, slice_get_past}
use Rattle.store.specs.Part.{part}
use Rattle.store.proofs.Fronts.{take-set_any}

pub length_part : (from most : ℕ) (xs : List ℕ) → length (part from most xs) ≡ min most (length xs - from)
length_part from most xs = simp (length-take, length-drop)

-- a place of the part is a place of the list
pub nth_part : (from most : ℕ) (xs : List ℕ) (p : ℕ) → p < length (part from most xs) → slice_get (part from most xs) p ≡ slice_get xs (from + p)
nth_part from most xs p l =
    let inside : p < min most (length xs - from) = rw (length_part from most xs) at l in
    slice_get-get_or (part from most xs) p 0 l
    ∙ ap Some (get_or-take most (drop from xs) p 0 (omega arith) ∙ get_or-drop from xs p 0)
    ∙ sym (slice_get-get_or xs (from + p) 0 (omega arith))

-- none lies past the end
pub none_part : (from most : ℕ) (xs : List ℕ) (p : ℕ) → length (part from most xs) ≤ p → slice_get (part from most xs) p ≡ None
none_part from most xs p l = slice_get_past (part from most xs) p l

-- a halfword put in the list is put in the part
pub part_set : (from most : ℕ) (xs : List ℕ) (p h : ℕ) → part from most (set xs (from + p) h) ≡ set (part from most xs) p h
part_set from most xs p h = ap (take most) (drop-set-add from xs p h) ∙ take-set_any most (drop from xs) p h
