-- A sheet's lines one after another, for a loop over them.
use Rattle.std.proofs.Common.{◌≡◌, ℕ, suc, ◌+◌, ◌-◌, ◌<◌, ◌≤◌, Bool, true, false, cond, List, [], ◌∷◌, length, take, drop, position, eqb, Some, None, sym, ap, ◌∙◌, arith}
use Rattle.std.proofs.lemmas.List.{take_rest}
use Rattle.text.specs.Lines.{Line, ended, unended, with_byte, lines}
use Rattle.text.proofs.Marks.{far, until, found, none_found, without_until, without_all, marked}
use Rattle.text.proofs.Splits.{one_ended, one_unended}

-- the first line ends at the first newline, and the others stand behind it
pub lines_more : (xs rest : List ℕ) (n : ℕ) → position (λ x. eqb x 10) xs ≡ Some n → rest ≡ drop (n + 1) xs → lines xs ≡ ended (take n xs) ∷ lines rest
lines_more xs rest n e r =
    let f = found 10 xs n e in
    ap lines (marked 10 xs f.1)
    ∙ one_ended (until 10 xs) (drop (far 10 xs + 1) xs) (without_until 10 xs)
    ∙ ap (λ k. ended (take k xs) ∷ lines (drop (k + 1) xs)) (sym f.0)
    ∙ ap (λ ys. ended (take n xs) ∷ lines ys) (sym r)

-- the same where the rest is taken up to the end
pub lines_next : (xs : List ℕ) (n : ℕ) → Some n ≡ position (λ x. eqb x 10) xs → ended (take n xs) ∷ lines (take (length xs - (n + 1)) (drop (n + 1) xs)) ≡ lines xs
lines_next xs n e = sym (lines_more xs _ n (sym e) (take_rest xs (n + 1)))

-- and they are fewer
pub lines_fall : (xs : List ℕ) (n : ℕ) → Some n ≡ position (λ x. eqb x 10) xs → length (lines (take (length xs - (n + 1)) (drop (n + 1) xs))) < length (lines xs)
lines_fall xs n e = omega (arith, ap length (lines_next xs n e))

-- bytes with no newline are one unended line
pub lines_last : (xs : List ℕ) → 0 < length xs → position (λ x. eqb x 10) xs ≡ None → lines xs ≡ unended xs ∷ []
lines_last xs l e = one_unended xs (without_all 10 xs (none_found 10 xs e)) l

-- no more lines than bytes
pub length-lines_le : (xs : List ℕ) → length (lines xs) ≤ length xs
length-lines_le [] = omega arith
length-lines_le (x ∷ xs) = step x (lines xs) (length xs) (eqb x 10) (length-lines_le xs)
  where
    front : (x : ℕ) (ls : List Line) (n : ℕ) → length ls ≤ n → length (with_byte x ls) ≤ suc n
    front x [] n l = omega arith
    front x (ended t ∷ ls) n l = omega arith
    front x (unended t ∷ ls) n l = omega arith

    step : (x : ℕ) (ls : List Line) (n : ℕ) (b : Bool) → length ls ≤ n → length (cond b (ended [] ∷ ls) (with_byte x ls)) ≤ suc n
    step x ls n true l = omega arith
    step x ls n false l = front x ls n l
