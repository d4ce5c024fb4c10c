-- Digits read one after another.
use Rattle.std.proofs.Common.{◌≡◌, ℕ, ◌+◌, ◌-◌, ◌*◌, ◌<◌, ◌≤◌, Bool, true, false, cond, ltb, List, [], ◌∷◌, length, get_or, drop, Some, None, sym, refl, ap, ◌∙◌, arith}
use Rattle.std.proofs.lemmas.List.{at_drop_more, at_drop_all}
use Rattle.std.proofs.lemmas.Bool.{cond-false, cond-true, ltb-true, ltb-false, le-ltb, lt-ltb, cond_both}
use Rattle.text.specs.Numbers.{is_digit, value_after, under}

-- a number does not fall as digits follow
pub over : (limit n : ℕ) (cs : List ℕ) → limit ≤ n → under limit (value_after n cs) ≡ None
over limit n [] l = cond-false (ltb n limit) (Some n) None (le-ltb n limit l)
over limit n (c ∷ cs) l =
    cond_both (is_digit c) (value_after (n * 10 + (c - 48)) cs) None (λ o. under limit o ≡ None) (λ _. over limit (n * 10 + (c - 48)) cs (omega arith)) (λ _. refl)

digit_some : (limit v m : ℕ) (cs : List ℕ) (b t : Bool) → Some m ≡ cond b (cond t (Some v) None) None → under limit (value_after m cs) ≡ under limit (cond b (value_after v cs) None)
digit_some limit v m cs true true e = let q : m ≡ v = cc in ap (λ n. under limit (value_after n cs)) q
digit_some limit v m cs true false e = let z : ◌≡◌ {A = ℕ} 0 1 = cc in absurd (omega arith)
digit_some limit v m cs false t e = let z : ◌≡◌ {A = ℕ} 0 1 = cc in absurd (omega arith)

digit_none : (limit v : ℕ) (cs : List ℕ) (b t : Bool) → ltb v limit ≡ t → None ≡ cond b (cond t (Some v) None) None → None ≡ under limit (cond b (value_after v cs) None)
digit_none limit v cs true true s e = let z : ◌≡◌ {A = ℕ} 0 1 = cc in absurd (omega arith)
digit_none limit v cs true false s e = sym (over limit v cs (ltb-false v limit s))
digit_none limit v cs false t s e = refl

fit_some : (limit v m : ℕ) (b t : Bool) → ltb v limit ≡ t → Some m ≡ cond b (cond t (Some v) None) None → m < limit
fit_some limit v m true true s e = let q : m ≡ v = cc in omega (arith, ltb-true v limit s)
fit_some limit v m true false s e = let z : ◌≡◌ {A = ℕ} 0 1 = cc in absurd (omega arith)
fit_some limit v m false t s e = let z : ◌≡◌ {A = ℕ} 0 1 = cc in absurd (omega arith)

module _ (limit n : ℕ) (xs : List ℕ) (i : ℕ) (l : i < length xs) where
  step : under limit (value_after n (drop i xs)) ≡ under limit (cond (is_digit (get_or xs i 0)) (value_after (n * 10 + (get_or xs i 0 - 48)) (drop (i + 1) xs)) None)
  step = at_drop_more (λ r. under limit (value_after n r)) xs i 0 l

  -- one digit more
  pub reads_on : (m : ℕ) → Some m ≡ cond (is_digit (get_or xs i 0)) (under limit (Some (n * 10 + (get_or xs i 0 - 48)))) None → under limit (value_after m (drop (i + 1) xs)) ≡ under limit (value_after n (drop i xs))
  reads_on m e =
      digit_some limit (n * 10 + (get_or xs i 0 - 48)) m (drop (i + 1) xs) (is_digit (get_or xs i 0)) (ltb (n * 10 + (get_or xs i 0 - 48)) limit) e ∙ sym step

  pub reads_fit : (m : ℕ) → Some m ≡ cond (is_digit (get_or xs i 0)) (under limit (Some (n * 10 + (get_or xs i 0 - 48)))) None → m < limit
  reads_fit m e = fit_some limit (n * 10 + (get_or xs i 0 - 48)) m (is_digit (get_or xs i 0)) (ltb (n * 10 + (get_or xs i 0 - 48)) limit) refl e

  -- no digit, or a number too large
  pub reads_none : None ≡ cond (is_digit (get_or xs i 0)) (under limit (Some (n * 10 + (get_or xs i 0 - 48)))) None → None ≡ under limit (value_after n (drop i xs))
  reads_none e =
      digit_none limit (n * 10 + (get_or xs i 0 - 48)) (drop (i + 1) xs) (is_digit (get_or xs i 0)) (ltb (n * 10 + (get_or xs i 0 - 48)) limit) refl e ∙ sym step

-- at the end
pub reads_all : (limit n : ℕ) (xs : List ℕ) (i : ℕ) → length xs ≤ i → n < limit → Some n ≡ under limit (value_after n (drop i xs))
reads_all limit n xs i l s =
    sym (at_drop_all (λ r. under limit (value_after n r)) xs i l ∙ cond-true (ltb n limit) (Some n) None (lt-ltb n limit s))
