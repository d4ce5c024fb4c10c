-- In a life each jump stands whole and apart from the others, so that the seal's test of counts, book and store is the listing's. Assumes nothing.
use Rattle.std.proofs.Common.{◌≡◌, ℕ, suc, ◌+◌, ◌≤◌, true, cond, ◌&&◌, ◌||◌, leb, List, [], ◌∷◌, ◌++◌, length, ℤ, Some, sym, refl, ap, ◌∙◌, subst, append_assoc, arith, length-append}
use Rattle.std.proofs.lemmas.Bool.{eq-eqb, ne_eqb, le-leb}
use Rattle.items.specs.Items.{Item, words, halfs, jump_standing}
use Rattle.items.specs.Pairs.{upper, lower, pair}
use Rattle.items.proofs.Items.{item_laws}
use Rattle.items.proofs.Constants.{pair_laws}
use Rattle.items.proofs.Leaps.{jump_laws}
use Rattle.records.specs.Records.{place_of}
use Rattle.sealing.specs.Sealing.{jump_judged, size_at, apart, where_apart, tested_from}
use Rattle.lives.specs.Listing.{Slot, item_at, sealed_from}
use Rattle.lives.specs.Tied.{Stands, none, some, jump, slot}
use Rattle.lives.proofs.Standing.{re, longer, longer_pair, re_pair, pair_end}

-- ---- which item begins at a place

-- the items of a listing from the place `at` on are these
abbrev pub From : List Item → ℕ → List Item → Type 0
From code at is = (p : ℕ) → at ≤ p → item_at 0 code p ≡ item_at at is p

pub from_start : (code : List Item) → From code 0 code
from_start code p h = refl

pub from_next : (code : List Item) (at : ℕ) (i : Item) (is : List Item) → From code at (i ∷ is) → From code (at + length (words i)) is
from_next code at i is f p h =
    let b = item_laws.some i in
    f p (omega arith) ∙ ap (λ t. cond t (Some i) (item_at (at + length (words i)) is p)) (ne_eqb p at (λ e. omega arith))

pub from_pair : (code : List Item) (at : ℕ) (d v : ℤ) (is : List Item) → From code at (upper d v ∷ lower d v ∷ is) → From code (at + 4) is
from_pair code at d v is f =
    let u = pair_laws.upper_two d v in
    let l = pair_laws.lower_two d v in
    let four : at + length (words (upper d v)) + length (words (lower d v)) ≡ at + 4 = omega arith in
    subst (λ n. From code n is) four (from_next code (at + length (words (upper d v))) (lower d v) is (from_next code at (upper d v) (lower d v ∷ is) f))

pub from_here : (code : List Item) (at : ℕ) (i : Item) (is : List Item) → From code at (i ∷ is) → item_at 0 code at ≡ Some i
from_here code at i is f = f at (omega arith) ∙ ap (λ t. cond t (Some i) (item_at (at + length (words i)) is at)) (eq-eqb at at refl)

-- ---- jumps that end before a place

abbrev Below : List ℕ → List (ℕ × ℕ) → ℕ → Type 0
Below cells [] at = Unit {0}
Below cells (j ∷ js) at = (j.0 + size_at cells j.0 ≤ at) × Below cells js at

below_more : (cells : List ℕ) (js : List (ℕ × ℕ)) (at bt : ℕ) → Below cells js at → at ≤ bt → Below cells js bt
below_more cells [] at bt h m = tt
below_more cells (j ∷ js) at bt h m = ((let a = h.0 in omega arith), below_more cells js at bt h.1 m)

below_snoc : (cells : List ℕ) (js : List (ℕ × ℕ)) (j : ℕ × ℕ) (at : ℕ) → Below cells js at → j.0 + size_at cells j.0 ≤ at → Below cells (js ++ (j ∷ [])) at
below_snoc cells [] j at h m = (m, tt)
below_snoc cells (i ∷ js) j at h m = (h.0, below_snoc cells js j at h.1 m)

below_apart : (cells : List ℕ) (js : List (ℕ × ℕ)) (at : ℕ) → Below cells js at → apart cells js at ≡ true
below_apart cells [] at h = refl
below_apart cells (j ∷ js) at h =
    ap (λ t. (t || leb (at + size_at cells at) j.0) && apart cells js at) (le-leb (j.0 + size_at cells j.0) at h.0) ∙ below_apart cells js at h.1

-- ---- the test

-- a jump that stands behind some halfwords is found there
pub found_at : (pre : List ℕ) (i : Item) (is : List Item) (post : List ℕ) (at used : ℕ) → jump_standing (pre ++ (words i ++ (halfs is ++ post))) used (length pre) ≡ Some i → length pre ≡ at → (cells : List ℕ) →
    cells ≡ pre ++ (halfs (i ∷ is) ++ post) → jump_standing cells used at ≡ Some i
found_at pre i is post at used f l cells e =
    ap (λ xs. jump_standing xs used at) (e ∙ simp append_assoc) ∙ subst (λ k. jump_standing (pre ++ (words i ++ (halfs is ++ post))) used k ≡ Some i) l f

module _ (ls : List (ℕ × ℕ)) (code : List Item) (used : ℕ) where
  pub tested_is : {P : ℕ × ℕ → ℤ → Type 0} {at : ℕ} {is : List Item} {js : List (ℕ × ℕ)} {ss : List Slot} → Stands P at is js ss → From code at is → (pre post : List ℕ) → length pre ≡ at →
      at + length (halfs is) ≤ used → (k : ℕ) (cells : List ℕ) → cells ≡ pre ++ (halfs is ++ post) → (before : List (ℕ × ℕ)) → Below cells before at → tested_from k ls cells used before js ≡ sealed_from k ls code js
  tested_is none f pre post l h k cells e before m = refl
  tested_is {P} {at} (some i is w p s) f pre post l h k cells e before m =
      let n = length-append (words i) (halfs is) in
      tested_is s (from_next code at i is f) (pre ++ words i) post (longer pre (words i) at l) (omega arith) k cells (e ∙ re pre (words i) (halfs is) post) before (below_more cells before at _ m (omega arith))
  tested_is {P} {at} (jump l i is js w p q s) f pre post x h k cells e before m =
      let n = length-append (words i) (halfs is) in
      let a = found_at pre i is post at used (jump_laws.found i pre (halfs is ++ post) used w p (omega arith)) x cells e in
      let z : length (words i) ≡ size_at cells at = jump_laws.length_by cells used at i a in
      let there : where_apart (apart cells before at) (jump_standing cells used at) ≡ Some i = ap (λ t. where_apart t (jump_standing cells used at)) (below_apart cells before at m) ∙ a in
      ap (λ o. jump_judged k at (place_of ls l) o (tested_from (suc k) ls cells used (before ++ ((at, l) ∷ [])) js)) (there ∙ sym (from_here code at i is f))
      ∙ ap (jump_judged k at (place_of ls l) (item_at 0 code at))
      (tested_is s (from_next code at i is f) (pre ++ words i) post (longer pre (words i) at x) (omega arith) (suc k) cells (e ∙ re pre (words i) (halfs is) post) (before ++ ((at, l) ∷ []))
      (below_snoc cells before (at, l) (at + length (words i)) (below_more cells before at (at + length (words i)) m (omega arith)) (omega arith)))
  tested_is {P} {at} (slot d v is ss r m₁ s) f pre post l h k cells e before m =
      let n = pair_end d v is in
      tested_is s (from_pair code at d v is f) (pre ++ pair d v) post (longer_pair pre d v at l) (omega arith) k cells (e ∙ re_pair pre d v is post) before (below_more cells before at _ m (omega arith))
