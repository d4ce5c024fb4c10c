-- The first records of a row, gone through in order. Assumes nothing.
use Rattle.std.proofs.Common.{◌≡◌, ℕ, Bool, true, false, cond, ◌==◌, List, [], ◌∷◌, map, Some, None, refl, ap, ◌∙◌}
use Rattle.std.specs.List.{find}
use Rattle.std.specs.Option.{option_map}
use Rattle.records.specs.declared.book.LabelRecord.{LabelRecord}
use Rattle.records.specs.Records.{place_of, label_of}

-- the first record that has the label tells its place
found_place : (rs : List LabelRecord) (l : ℕ) → option_map (λ r. r.place) (find (λ r. r.label == l) rs) ≡ place_of (map label_of rs) l
found_place [] l = refl
found_place (r ∷ rs) l =
    elim (r.label == l) as (λ (b : Bool). option_map (λ (x : LabelRecord). x.place) (cond b (Some r) (find (λ (x : LabelRecord). x.label == l) rs)) ≡ cond b (Some r.place) (place_of (map label_of rs) l)) [
      | true ↦ refl
      | false ↦ found_place rs l
    ]

pub place_found : (rs : List LabelRecord) (l : ℕ) (r : LabelRecord) → Some r ≡ find (λ x. x.label == l) rs → Some r.place ≡ place_of (map label_of rs) l
place_found rs l r e = ap (option_map (λ (x : LabelRecord). x.place)) e ∙ found_place rs l

-- no record has the label: it has no place
pub place_missing : (rs : List LabelRecord) (l : ℕ) → None ≡ find (λ x. x.label == l) rs → None ≡ place_of (map label_of rs) l
place_missing rs l e = ap (option_map (λ (x : LabelRecord). x.place)) e ∙ found_place rs l
