-- Entries collected one after the other. Assumes nothing.
use Rattle.std.proofs.Common.{◌≡◌, ℕ, suc, ◌+◌, ◌-◌, ◌<◌, List, [], ◌∷◌, ◌++◌, length, take, set, Some, None, Option, refl, sym, ap, ap₂, ◌∙◌, append_assoc, arith}
use Rattle.std.proofs.lemmas.List.{take_more_set, length-set}
use Rattle.text.specs.Found.{found}
use Rattle.changing.specs.declared.edits.Edit.{Edit}
use Rattle.scripts.specs.Edits.{edit_at, edits_from}

-- entries behind others, if they are there
abbrev pub behind : List Edit → Option (List Edit) → Option (List Edit)
behind xs None = None
behind xs (Some ys) = Some (xs ++ ys)

join : (xs : List Edit) (e : Edit) (o : Option (List Edit)) → behind xs (found o (λ es. Some (e ∷ es))) ≡ behind (xs ++ (e ∷ [])) o
join xs e None = refl
join xs e (Some ys) = ap Some (sym (append_assoc xs (e ∷ []) ys))

step : (line : List ℕ) (k m : ℕ) (e : Edit) (xs : List Edit) → edit_at line k ≡ Some e → behind xs (edits_from line k (suc m)) ≡ behind (xs ++ (e ∷ [])) (edits_from line (suc k) m)
step line k m e xs q = ap (λ o. behind xs (found o (λ x. found (edits_from line (suc k) m) (λ es. Some (x ∷ es))))) q ∙ join xs e (edits_from line (suc k) m)

-- one entry more
pub filled_more : (line : List ℕ) (list : List Edit) (k : ℕ) (e : Edit) → k < length list → edit_at line k ≡ Some e → edits_from line 0 (length list) ≡ behind (take k list) (edits_from line k (length list - k)) →
    edits_from line 0 (length (set list k e)) ≡ behind (take (k + 1) (set list k e)) (edits_from line (k + 1) (length (set list k e) - (k + 1)))
filled_more line list k e h q is =
    let n = length-set list k e in
    let m : length list - k ≡ suc (length list - (k + 1)) = omega arith in
    let j : suc k ≡ k + 1 = omega arith in
    ap (edits_from line 0) n ∙ is
    ∙ ap (λ x. behind (take k list) (edits_from line k x)) m
    ∙ step line k (length list - (k + 1)) e (take k list) q
    ∙ ap₂ behind (sym (take_more_set list k e h)) (ap₂ (edits_from line) j (ap (λ x. x - (k + 1)) (sym n)))
