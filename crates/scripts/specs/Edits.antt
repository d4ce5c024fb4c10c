-- The slots and values that a change names, two words each behind the first.
use Rattle.std.specs.Prelude.{ℕ, zero, suc, ◌+◌, ◌*◌, ◌/◌, ◌%◌, cond, ◌&&◌, List, [], ◌∷◌, length, Some, None, Option, ◌==◌, nat_le}
use Rattle.text.specs.Found.{found}
use Rattle.changing.specs.declared.edits.Edit.{Edit}
use Rattle.scripts.specs.Words.{words, number_at}

-- entry k, from 0
abbrev pub edit_at : List ℕ → ℕ → Option Edit
edit_at line k = found (number_at line (2 * k + 1)) (λ s. found (number_at line (2 * k + 2)) (λ v. Some (record { slot = s; value = v })))

-- n entries from entry k on, if each is there
abbrev pub edits_from : List ℕ → ℕ → ℕ → Option (List Edit)
edits_from line k zero = Some []
edits_from line k (suc n) = found (edit_at line k) (λ e. found (edits_from line (suc k) n) (λ es. Some (e ∷ es)))

-- at most 64 of them, and no word left over
abbrev pub edits_of : List ℕ → Option (List Edit)
edits_of line = cond ((length (words line) % 2 == 1) && nat_le (length (words line)) 129) (edits_from line 0 (length (words line) / 2)) None
