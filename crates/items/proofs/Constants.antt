-- A constant's pair of items. Assumes nothing.
use Rattle.std.proofs.Common.{◌≡◌, ℕ, ◌+◌, ◌<◌, true, false, List, [], ◌∷◌, ◌++◌, length, get_or, ℤ, sym, refl, ap, ◌∙◌, subst, add-zero, lit<}
use Rattle.std.proofs.lemmas.List.{get_or-append-add}
use Rattle.formats.specs.Layouts.{size}
use Rattle.operations.specs.Manual.{operations, form_at, count}
use Rattle.instructions.specs.Words.{word_of, halves}
use Rattle.pairs.specs.Pairs as pairs
use Rattle.pairs.proofs.Words.{lui_is, addi_is, lui_size, addi_size, pair_words, pair_holds}
use Rattle.items.specs.Items.{Lawful, words, jumps}
use Rattle.items.specs.Pairs.{register_ok, makeable, upper, lower, pair, held, held_at}
use Rattle.items.specs.Laws.{PairLaws}

two : (n w : ℕ) → n ≡ 2 → length (halves n w) ≡ 2
two n w e = ap (λ m. length (halves m w)) e

upper_two : (d v : ℤ) → length (words (upper d v)) ≡ 2
unfolding words upper
upper_two d v = two (size (form_at (pairs.upper d v).0).kind) (word_of (form_at (pairs.upper d v).0) (pairs.upper d v).1) lui_size

lower_two : (d v : ℤ) → length (words (lower d v)) ≡ 2
unfolding words lower
lower_two d v = two (size (form_at (pairs.lower d v).0).kind) (word_of (form_at (pairs.lower d v).0) (pairs.lower d v).1) addi_size

upper_stays : (d v : ℤ) → jumps (upper d v) ≡ false
unfolding jumps upper operations
upper_stays d v = refl

lower_stays : (d v : ℤ) → jumps (lower d v) ≡ false
unfolding jumps lower operations
lower_stays d v = refl

upper_lawful : (d v : ℤ) → register_ok d ≡ true → makeable v ≡ true → Lawful (upper d v)
unfolding register_ok makeable upper Lawful
upper_lawful d v r m = (subst (λ k. k < count) (sym lui_is) (lit< tt), (pair_holds d v r m).upper_lawful)

lower_lawful : (d v : ℤ) → register_ok d ≡ true → makeable v ≡ true → Lawful (lower d v)
unfolding register_ok makeable lower Lawful
lower_lawful d v r m = (subst (λ k. k < count) (sym addi_is) (lit< tt), (pair_holds d v r m).lower_lawful)

-- four halfwords behind others
behind : (xs before after : List ℕ) (a b c e : ℕ) → xs ≡ a ∷ b ∷ c ∷ e ∷ [] → pairs.held_at (before ++ (xs ++ after)) (length before) ≡ pairs.held_at xs 0
behind xs before after a b c e h =
    let ys = a ∷ b ∷ c ∷ e ∷ after in
    let n = length before in
    let z : get_or (before ++ ys) n 0 ≡ a = subst (λ k. get_or (before ++ ys) k 0 ≡ a) (add-zero n) (get_or-append-add before ys 0 0) in
    ap (λ ws. pairs.held_at (before ++ (ws ++ after)) n) h
    ∙ ap (λ x. pairs.held x (get_or (before ++ ys) (n + 1) 0) (get_or (before ++ ys) (n + 2) 0) (get_or (before ++ ys) (n + 3) 0)) z
    ∙ ap (λ x. pairs.held a x (get_or (before ++ ys) (n + 2) 0) (get_or (before ++ ys) (n + 3) 0)) (get_or-append-add before ys 1 0)
    ∙ ap (λ x. pairs.held a b x (get_or (before ++ ys) (n + 3) 0)) (get_or-append-add before ys 2 0)
    ∙ ap (λ x. pairs.held a b c x) (get_or-append-add before ys 3 0)
    ∙ sym (ap (λ ws. pairs.held_at ws 0) h)

holds : (d v : ℤ) (before after : List ℕ) → register_ok d ≡ true → makeable v ≡ true → held_at (before ++ (pair d v ++ after)) (length before) ≡ v
unfolding register_ok makeable words upper lower held
holds d v before after r m = behind (pairs.pair d v) before after _ _ _ _ (pair_words d (pairs.high_of v) (pairs.low_of v)) ∙ (pair_holds d v r m).holds

pub pair_laws : PairLaws
pair_laws = record {
  upper_lawful = upper_lawful;
  lower_lawful = lower_lawful;
  upper_stays = upper_stays;
  lower_stays = lower_stays;
  upper_two = upper_two;
  lower_two = lower_two;
  holds = holds;
}
