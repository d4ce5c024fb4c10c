-- The place of a mark, byte by byte.
use Rattle.std.proofs.Common.{◌≡◌, ◌==◌, ℕ, suc, ◌+◌, ◌<◌, ◌≤◌, ◌≢◌, Bool, true, false, List, length, drop, slice_index_or, Some, None, cond, sym, ap, ◌∙◌, add-one}
use Rattle.std.proofs.lemmas.Bool.{eq-eqb, eqb-true, false_from_ne_true}
use Rattle.std.proofs.lemmas.List.{drop_all}
use Rattle.std.proofs.Math.Seq.{drop-cons}
use Rattle.std.specs.List.{position_from}

-- what stands from the place on: the byte there, and the rest
here : (m : ℕ) (xs : List ℕ) (k : ℕ) (t : Bool) → k < length xs → slice_index_or xs k 0 == m ≡ t → position_from (λ b. b == m) k (drop k xs) ≡ cond t (Some k) (position_from (λ b. b == m) (k + 1) (drop (suc k) xs))
here m xs k t h e =
    ap (position_from (λ b. b == m) k) (drop-cons xs k 0 h)
    ∙ ap (λ s. cond s (Some k) (position_from (λ b. b == m) (k + 1) (drop (suc k) xs))) e

pub at_mark : (m : ℕ) (xs : List ℕ) (k : ℕ) → k < length xs → slice_index_or xs k 0 ≡ m → Some k ≡ position_from (λ b. b == m) k (drop k xs)
at_mark m xs k h e = sym (here m xs k true h (eq-eqb _ _ e))

pub past_byte : (m : ℕ) (xs : List ℕ) (k : ℕ) → k < length xs → slice_index_or xs k 0 ≢ m → position_from (λ b. b == m) (k + 1) (drop (k + 1) xs) ≡ position_from (λ b. b == m) k (drop k xs)
past_byte m xs k h n =
    ap (λ j. position_from (λ b. b == m) (k + 1) (drop j xs)) (add-one k)
    ∙ sym (here m xs k false h (false_from_ne_true _ (λ e. n (eqb-true _ _ e))))

pub at_end : (m : ℕ) (xs : List ℕ) (k : ℕ) → length xs ≤ k → None ≡ position_from (λ b. b == m) k (drop k xs)
at_end m xs k n = sym (ap (position_from (λ b. b == m) k) (drop_all k xs n))
