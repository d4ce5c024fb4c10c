-- Jumps and slots that stand among the items. Assumes nothing.
use Rattle.std.proofs.Common.{◌≡◌, ℕ, zero, suc, ◌+◌, ◌<◌, ◌≤◌, true, false, cond, List, [], ◌∷◌, ◌++◌, map, length, take, drop, ℤ, Some, sym, refl, ap, ◌∙◌, subst, append_assoc, arith, length-append, take_all}
use Rattle.std.specs.List.{slice_get}
use Rattle.std.proofs.lemmas.List.{set_at}
use Rattle.std.proofs.lemmas.Bool.{eq-eqb, ne_eqb}
use Rattle.store.specs.Puts.{applied, puts}
use Rattle.items.specs.Items.{Item, Lawful, AllLawful, words, halfs, jumps}
use Rattle.items.specs.Pairs.{register_ok, makeable, upper, lower, pair, held_at}
use Rattle.items.proofs.Items.{item_laws}
use Rattle.items.proofs.Constants.{pair_laws}
use Rattle.lives.specs.Listing.{Slot, with_pair, with_value}
use Rattle.lives.specs.Life.{Starts, EachHolds}
use Rattle.lives.specs.Tied.{Stands, none, some, jump, slot, Any, AllStart}

-- a pair, and what follows it
pub pair_length : (d v : ℤ) (xs : List ℕ) → length (pair d v ++ xs) ≡ 4 + length xs
pair_length d v xs =
    let a = length-append (pair d v) xs in
    let b = length-append (words (upper d v)) (words (lower d v)) in
    let u = pair_laws.upper_two d v in
    let l = pair_laws.lower_two d v in
    omega arith

pub pair_halfs : (d v : ℤ) (is : List Item) → halfs (upper d v ∷ lower d v ∷ is) ≡ pair d v ++ halfs is
pair_halfs d v is = sym (append_assoc (words (upper d v)) (words (lower d v)) (halfs is))

pub pair_end : (d v : ℤ) (is : List Item) → length (halfs (upper d v ∷ lower d v ∷ is)) ≡ 4 + length (halfs is)
pair_end d v is = ap length (pair_halfs d v is) ∙ pair_length d v (halfs is)

module _ {P : ℕ × ℕ → ℤ → Type 0} where
  pub stands_lawful : {at : ℕ} {is : List Item} {js : List (ℕ × ℕ)} {ss : List Slot} → Stands P at is js ss → AllLawful is
  stands_lawful none = tt
  stands_lawful (some i is w p s) = (w, stands_lawful s)
  stands_lawful (jump l i is js w p q s) = (w, stands_lawful s)
  stands_lawful (slot d v is ss r m s) = (pair_laws.upper_lawful d v r m, (pair_laws.lower_lawful d v r m, stands_lawful s))

  pub snoc_plain : {at : ℕ} {is : List Item} {js : List (ℕ × ℕ)} {ss : List Slot} → Stands P at is js ss → (i : Item) → Lawful i → jumps i ≡ false → Stands P at (is ++ (i ∷ [])) js ss
  snoc_plain none i w p = some i [] w p none
  snoc_plain (some j is v q s) i w p = some j (is ++ (i ∷ [])) v q (snoc_plain s i w p)
  snoc_plain (jump l j is js v q a s) i w p = jump l j (is ++ (i ∷ [])) js v q a (snoc_plain s i w p)
  snoc_plain (slot d v is ss r m s) i w p = slot d v (is ++ (i ∷ [])) ss r m (snoc_plain s i w p)

  pub snoc_slot : {at : ℕ} {is : List Item} {js : List (ℕ × ℕ)} {ss : List Slot} → Stands P at is js ss → (d v : ℤ) (p : ℕ) → register_ok d ≡ true → makeable v ≡ true → p ≡ at + length (halfs is) →
      Stands P at (is ++ (upper d v ∷ lower d v ∷ [])) js (ss ++ (record { place = p; register = d; value = v } ∷ []))
  snoc_slot {at} none d v p r m e =
      subst (λ x. Stands P at (upper d v ∷ lower d v ∷ []) [] (record { place = x; register = d; value = v } ∷ [])) (let w : at ≡ p = omega arith in w) (slot d v [] [] r m none)
  snoc_slot {at} (some i is w q s) d v p r m e = some i (is ++ (upper d v ∷ lower d v ∷ [])) w q (snoc_slot s d v p r m (let k = length-append (words i) (halfs is) in omega arith))
  snoc_slot {at} (jump l i is js w q a s) d v p r m e = jump l i (is ++ (upper d v ∷ lower d v ∷ [])) js w q a (snoc_slot s d v p r m (let k = length-append (words i) (halfs is) in omega arith))
  snoc_slot {at} (slot f x is ss r₁ m₁ s) d v p r m e =
      slot f x (is ++ (upper d v ∷ lower d v ∷ [])) (ss ++ (record { place = p; register = d; value = v } ∷ [])) r₁ m₁ (snoc_slot s d v p r m (let k = pair_end f x is in omega arith))

pub snoc_jump : {at : ℕ} {is : List Item} {js : List (ℕ × ℕ)} {ss : List Slot} → Stands Any at is js ss → (i : Item) (l p : ℕ) → Lawful i → jumps i ≡ true → p ≡ at + length (halfs is) →
    Stands Any at (is ++ (i ∷ [])) (js ++ ((p, l) ∷ [])) ss
snoc_jump {at} none i l p w q e = subst (λ x. Stands Any at (i ∷ []) ((x, l) ∷ []) []) (let h : at ≡ p = omega arith in h) (jump l i [] [] w q tt none)
snoc_jump {at} (some j is v r s) i l p w q e = some j (is ++ (i ∷ [])) v r (snoc_jump s i l p w q (let k = length-append (words j) (halfs is) in omega arith))
snoc_jump {at} (jump m j is js v r a s) i l p w q e = jump m j (is ++ (i ∷ [])) (js ++ ((p, l) ∷ [])) v r a (snoc_jump s i l p w q (let k = length-append (words j) (halfs is) in omega arith))
snoc_jump {at} (slot d v is ss r m s) i l p w q e = slot d v (is ++ (i ∷ [])) ss r m (snoc_jump s i l p w q (let k = pair_end d v is in omega arith))

-- ---- halfwords before, between and behind

pub re : (a b c d : List ℕ) → a ++ ((b ++ c) ++ d) ≡ (a ++ b) ++ (c ++ d)
re a b c d = simp append_assoc

-- past some halfwords that are left
pub on : (F : List ℕ → List ℕ) (pre ws xs ys post : List ℕ) → F ((pre ++ ws) ++ (xs ++ post)) ≡ (pre ++ ws) ++ (ys ++ post) → F (pre ++ ((ws ++ xs) ++ post)) ≡ pre ++ ((ws ++ ys) ++ post)
on F pre ws xs ys post e = ap F (re pre ws xs post) ∙ e ∙ sym (re pre ws ys post)

pub longer : (pre ws : List ℕ) (at : ℕ) → length pre ≡ at → length (pre ++ ws) ≡ at + length ws
longer pre ws at e = length-append pre ws ∙ ap (λ k. k + length ws) e

pub longer_pair : (pre : List ℕ) (d v : ℤ) (at : ℕ) → length pre ≡ at → length (pre ++ pair d v) ≡ at + 4
longer_pair pre d v at e =
    let a = longer pre (pair d v) at e in
    let b = length-append (words (upper d v)) (words (lower d v)) in
    let u = pair_laws.upper_two d v in
    let l = pair_laws.lower_two d v in
    omega arith

-- the halfwords of a pair and of the items behind it
pub re_pair : (pre : List ℕ) (d v : ℤ) (is : List Item) (post : List ℕ) → pre ++ (halfs (upper d v ∷ lower d v ∷ is) ++ post) ≡ (pre ++ pair d v) ++ (halfs is ++ post)
re_pair pre d v is post = ap (λ xs. pre ++ (xs ++ post)) (pair_halfs d v is) ∙ re pre (pair d v) (halfs is) post

pub holds_code : {P : ℕ × ℕ → ℤ → Type 0} {at : ℕ} {is : List Item} {js : List (ℕ × ℕ)} {ss : List Slot} → Stands P at is js ss → (pre post : List ℕ) → length pre ≡ at → EachHolds (pre ++ (halfs is ++ post)) ss
holds_code none pre post e = tt
holds_code {P} {at} {js} {ss} (some i is w p s) pre post e =
    subst (λ xs. EachHolds xs ss) (sym (re pre (words i) (halfs is) post)) (holds_code s (pre ++ words i) post (longer pre (words i) at e))
holds_code {P} {at} {ss} (jump l i is js w p q s) pre post e =
    subst (λ xs. EachHolds xs ss) (sym (re pre (words i) (halfs is) post)) (holds_code s (pre ++ words i) post (longer pre (words i) at e))
holds_code {P} {at} {js} (slot d v is ss r m s) pre post e =
    let cells = pre ++ (halfs (upper d v ∷ lower d v ∷ is) ++ post) in
    let split : cells ≡ pre ++ (pair d v ++ (halfs is ++ post)) = re_pair pre d v is post ∙ append_assoc pre (pair d v) (halfs is ++ post) in (
      subst (λ k. held_at cells k ≡ v) e (ap (λ xs. held_at xs (length pre)) split ∙ pair_laws.holds d v pre (halfs is ++ post) r m),
      subst (λ xs. EachHolds xs ss) (sym (re_pair pre d v is post)) (holds_code s (pre ++ pair d v) post (longer_pair pre d v at e)),
    )

-- ---- a slot given another value

pub slot_inside : {P : ℕ × ℕ → ℤ → Type 0} {at : ℕ} {is : List Item} {js : List (ℕ × ℕ)} {ss : List Slot} → Stands P at is js ss → (k : ℕ) (x : Slot) → slice_get ss k ≡ Some x →
    (at ≤ x.place) × (x.place + 4 ≤ at + length (halfs is)) × (register_ok x.register ≡ true)
slot_inside none k x e = cc
slot_inside {P} {at} (some i is w p s) k x e = let h = slot_inside s k x e in let a = length-append (words i) (halfs is) in let b = h.0 in let c = h.1 in (omega arith, omega arith, h.2)
slot_inside {P} {at} (jump l i is js w p q s) k x e = let h = slot_inside s k x e in let a = length-append (words i) (halfs is) in let b = h.0 in let c = h.1 in (omega arith, omega arith, h.2)
slot_inside {P} {at} (slot d v is ss r m s) zero x e =
    let w : record { place = at; register = d; value = v } ≡ x = cc in
    let p : at ≡ x.place = ap (λ y. y.place) w in
    let q : d ≡ x.register = ap (λ y. y.register) w in
    let a = pair_end d v is in
    (omega arith, omega arith, subst (λ z. register_ok z ≡ true) q r)
slot_inside {P} {at} (slot d v is ss r m s) (suc k) x e = let h = slot_inside s k x e in let a = pair_end d v is in let b = h.0 in let c = h.1 in (omega arith, omega arith, h.2)

skip : (p : ℕ) (d v : ℤ) (at : ℕ) (i : Item) (is : List Item) → at < p → with_pair p d v at (i ∷ is) ≡ i ∷ with_pair p d v (at + length (words i)) is
skip p d v at i is h = ap (λ t. cond t (upper d v ∷ lower d v ∷ drop 1 is) (i ∷ with_pair p d v (at + length (words i)) is)) (ne_eqb p at (λ e. omega arith))

here : (at : ℕ) (d v : ℤ) (i : Item) (is : List Item) → with_pair at d v at (i ∷ is) ≡ upper d v ∷ lower d v ∷ drop 1 is
here at d v i is = ap (λ t. cond t (upper d v ∷ lower d v ∷ drop 1 is) (i ∷ with_pair at d v (at + length (words i)) is)) (eq-eqb at at refl)

-- halfwords over as many
pub over : (pre os ns rest : List ℕ) (at : ℕ) → length pre ≡ at → length os ≡ length ns → applied (puts at ns) (pre ++ (os ++ rest)) ≡ pre ++ (ns ++ rest)
over pre [] [] rest at e h = refl
over pre [] (n ∷ ns) rest at e h = absurd (omega arith)
over pre (o ∷ os) [] rest at e h = absurd (omega arith)
over pre (o ∷ os) (n ∷ ns) rest at e h =
    ap (λ xs. applied (puts (suc at) ns) xs) (set_at pre o (os ++ rest) n at e ∙ sym (append_assoc pre (n ∷ []) (os ++ rest)))
    ∙ over (pre ++ (n ∷ [])) os ns rest (suc at) (let k = length-append pre (n ∷ []) in omega arith) (omega arith)
    ∙ append_assoc pre (n ∷ []) (ns ++ rest)

abbrev pub sizes : List Item → List ℕ
sizes is = map (λ (i : Item). length (words i)) is

-- the items, the halfwords and the sizes after one slot is given a value
pub record Given (P : ℕ × ℕ → ℤ → Type 0) (at : ℕ) (is : List Item) (js : List (ℕ × ℕ)) (ss : List Slot) (k : ℕ) (w : ℤ) (x : Slot) : Type 0 where
  pub stands : Stands P at (with_pair x.place x.register w at is) js (with_value ss k w)
  pub cells : (pre post : List ℕ) → length pre ≡ at →
      applied (puts x.place (pair x.register w)) (pre ++ (halfs is ++ post)) ≡ pre ++ (halfs (with_pair x.place x.register w at is) ++ post)
  pub sized : sizes (with_pair x.place x.register w at is) ≡ sizes is

-- past one item that is left
past : {P : ℕ × ℕ → ℤ → Type 0} {at : ℕ} (i : Item) {is : List Item} {js js₁ : List (ℕ × ℕ)} {ss : List Slot} {k : ℕ} {w : ℤ} {x : Slot} → at < x.place →
    ((ks : List Item) (ts : List Slot) → Stands P (at + length (words i)) ks js ts → Stands P at (i ∷ ks) js₁ ts) →
    Given P (at + length (words i)) is js ss k w x → Given P at (i ∷ is) js₁ ss k w x
past {P} {at} i {is} {js} {js₁} {ss} {k} {w} {x} h f r =
    let e = skip x.place x.register w at i is h in
    record {
      stands = subst (λ ks. Stands P at ks js₁ (with_value ss k w)) (sym e) (f (with_pair x.place x.register w (at + length (words i)) is) (with_value ss k w) r.stands);
      cells = λ pre post l.
          on (λ xs. applied (puts x.place (pair x.register w)) xs) pre (words i) (halfs is) (halfs (with_pair x.place x.register w (at + length (words i)) is)) post
          (r.cells (pre ++ words i) post (longer pre (words i) at l))
          ∙ ap (λ ks. pre ++ (halfs ks ++ post)) (sym e);
      sized = ap sizes e ∙ ap (λ xs. length (words i) ∷ xs) r.sized;
    }

pub give : {P : ℕ × ℕ → ℤ → Type 0} {at : ℕ} {is : List Item} {js : List (ℕ × ℕ)} {ss : List Slot} → Stands P at is js ss → (k : ℕ) (w : ℤ) (x : Slot) → slice_get ss k ≡ Some x → makeable w ≡ true → Given P at is js ss k w x
give none k w x e h = cc
give {P} {at} (some i is f p s) k w x e h = past i (let a = (slot_inside s k x e).0 in let b = item_laws.some i in omega arith) (λ ks ts t. some i ks f p t) (give s k w x e h)
give {P} {at} (jump l i is js f p q s) k w x e h = past i (let a = (slot_inside s k x e).0 in let b = item_laws.some i in omega arith) (λ ks ts t. jump l i ks js f p q t) (give s k w x e h)
give {P} {at} {js} (slot d v is ss r m s) zero w x e h =
    let y : Slot = record { place = at; register = d; value = v } in
    let q : y ≡ x = cc in
    let f = here at d w (upper d v) (lower d v ∷ is) in
    let four : length (pair d v) ≡ length (pair d w) = (let a = longer_pair [] d v 0 refl in let b = longer_pair [] d w 0 refl in omega arith) in
    subst (λ z. Given P at (upper d v ∷ lower d v ∷ is) js (y ∷ ss) zero w z) q
    (record {
      stands = subst (λ ks. Stands P at ks js (record { place = at; register = d; value = w } ∷ ss)) (sym f) (slot d w is ss r h s);
      cells = λ pre post l.
          ap (λ xs. applied (puts at (pair d w)) xs) (re_pair pre d v is post ∙ append_assoc pre (pair d v) (halfs is ++ post))
          ∙ over pre (pair d v) (pair d w) (halfs is ++ post) at l four
          ∙ sym (re_pair pre d w is post ∙ append_assoc pre (pair d w) (halfs is ++ post))
          ∙ ap (λ ks. pre ++ (halfs ks ++ post)) (sym f);
      sized = ap sizes f
          ∙ ap (λ n. n ∷ length (words (lower d w)) ∷ sizes is) (pair_laws.upper_two d w ∙ sym (pair_laws.upper_two d v))
          ∙ ap (λ n. length (words (upper d v)) ∷ n ∷ sizes is) (pair_laws.lower_two d w ∙ sym (pair_laws.lower_two d v));
    })
give {P} {at} {js} (slot d v is ss r m s) (suc k) w x e h =
    let g = give s k w x e h in
    let a : at + 4 ≤ x.place = (slot_inside s k x e).0 in
    let u = pair_laws.upper_two d v in
    let l = pair_laws.lower_two d v in
    let four : at + length (words (upper d v)) + length (words (lower d v)) ≡ at + 4 = omega arith in
    let f : with_pair x.place x.register w at (upper d v ∷ lower d v ∷ is) ≡ upper d v ∷ lower d v ∷ with_pair x.place x.register w (at + 4) is =
    skip x.place x.register w at (upper d v) (lower d v ∷ is) (omega arith)
    ∙ ap (λ ks. upper d v ∷ ks) (skip x.place x.register w (at + length (words (upper d v))) (lower d v) is (omega arith))
    ∙ ap (λ n. upper d v ∷ lower d v ∷ with_pair x.place x.register w n is) four in
    record {
      stands = subst (λ ks. Stands P at ks js (record { place = at; register = d; value = v } ∷ with_value ss k w)) (sym f) (slot d v (with_pair x.place x.register w (at + 4) is) (with_value ss k w) r m g.stands);
      cells = λ pre post n.
          ap (λ xs. applied (puts x.place (pair x.register w)) xs) (re_pair pre d v is post)
          ∙ g.cells (pre ++ pair d v) post (longer_pair pre d v at n)
          ∙ sym (re_pair pre d v (with_pair x.place x.register w (at + 4) is) post)
          ∙ ap (λ ks. pre ++ (halfs ks ++ post)) (sym f);
      sized = ap sizes f ∙ ap (λ xs. length (words (upper d v)) ∷ length (words (lower d v)) ∷ xs) g.sized;
    }

-- ---- places follow from the sizes

total : List ℕ → ℕ
total [] = 0
total (x ∷ xs) = x + total xs

front : (m : ℕ) (is : List Item) → length (halfs (take m is)) ≡ total (take m (sizes is))
unfolding total
front zero is = refl
front (suc m) [] = refl
front (suc m) (i ∷ is) = length-append (words i) (halfs (take m is)) ∙ ap (λ k. length (words i) + k) (front m is)

count : (is : List Item) → length (sizes is) ≡ length is
count [] = refl
count (i ∷ is) = ap suc (count is)

pub same_front : (is js : List Item) → sizes is ≡ sizes js → (m : ℕ) → length (halfs (take m is)) ≡ length (halfs (take m js))
same_front is js e m = front m is ∙ ap (λ xs. total (take m xs)) e ∙ sym (front m js)

pub same_count : (is js : List Item) → sizes is ≡ sizes js → length is ≡ length js
same_count is js e = sym (count is) ∙ ap length e ∙ count js

pub same_length : (is js : List Item) → sizes is ≡ sizes js → length (halfs is) ≡ length (halfs js)
same_length is js e =
    let n = length is in
    let c = same_count is js e in
    ap (λ xs. length (halfs xs)) (sym (take_all n is (omega arith))) ∙ same_front is js e n ∙ ap (λ xs. length (halfs xs)) (take_all n js (omega arith))

pub same_starts : (is js : List Item) → sizes is ≡ sizes js → (q : ℕ) → Starts is q → Starts js q
same_starts is js e q s = (s.0, (let a = s.1 in let c = same_count is js e in omega arith), sym (same_front is js e s.0) ∙ s.2)

pub all_same_starts : (is js : List Item) → sizes is ≡ sizes js → (ls : List (ℕ × ℕ)) → AllStart is ls → AllStart js ls
all_same_starts is js e [] s = tt
all_same_starts is js e (l ∷ ls) s = (same_starts is js e l.1 s.0, all_same_starts is js e ls s.1)
