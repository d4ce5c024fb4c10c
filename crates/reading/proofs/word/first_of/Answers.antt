use Rattle.std.proofs.Common.{◌≡◌, ℕ, ◌+◌, ◌<◌, Bool, true, false, ltb, slice_index, refl, subst, arith}
use Rattle.std.proofs.lemmas.Bool.{ltb-true}
use Rattle.std.proofs.lemmas.Bool.Decides.{nat_tests}
use Rattle.operations.specs.Manual.{count}
use Rattle.reading.specs.Reading.{Unread}
use Rattle.reading.proofs.word.first_of.Goals as goal

more : (n : ℕ) (P : ℕ → Type 0) → ((j : ℕ) → j < n → P j) → P n → (j : ℕ) → j < n + 1 → P j
more n P h p j l = go (ltb j n) refl
  where
    go : (b : Bool) → ltb j n ≡ b → P j
    go true t = h j (ltb-true j n t)
    go false t = let e : n ≡ j = grind (arith, nat_tests) in subst P e p

pub loop-place-preserved : goal.loop-place-preserved
loop-place-preserved c =
    more c.loop-place.place-index (λ j. slice_index c.args.places.now j < count → Unread (slice_index c.args.places.now j) c.args.w) c.loop-place.invariant
    (subst (λ k. k < count → Unread k c.args.w) c.from.ensures c.in_default.ensures)
