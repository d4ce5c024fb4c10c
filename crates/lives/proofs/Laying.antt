-- What a seal lays among the halfwords of a listing's items, and how its jumps and slots then stand. Assumes nothing.
use Rattle.std.proofs.Common.{◌≡◌, ℕ, suc, ◌+◌, ◌≤◌, Bool, true, false, cond, List, [], ◌∷◌, ◌++◌, length, get_or, set, ℤ, Some, None, Ok, Option, sym, refl, ap, ◌∙◌, subst, inl, inr, append_assoc, arith, length-append}
use Rattle.std.proofs.lemmas.List.{get_or-set_other}
use Rattle.store.specs.Puts.{applied, puts}
use Rattle.store.proofs.Puts.{applied-append}
use Rattle.items.specs.Items.{Item, Lawful, words, halfs, jumps, in_reach, aimed_at, distance, jump_standing}
use Rattle.items.specs.Pairs.{upper, lower, pair}
use Rattle.items.proofs.Constants.{pair_laws}
use Rattle.items.proofs.Leaps.{jump_laws}
use Rattle.records.specs.Records.{place_of}
use Rattle.sealing.specs.declared.faults.JumpCause.TheVariants.{OutOfReach}
use Rattle.sealing.specs.Sealing.{Verdict, bad, jump_judged, aimed_puts, jump_puts, seal_puts, laid, distance_to}
use Rattle.lives.specs.Listing.{Slot, item_at, sealed_from, settled}
use Rattle.lives.specs.Life.{Beside, BesideItem, BesideJumps}
use Rattle.lives.specs.Tied.{Stands, none, some, jump, slot, Any, Aims}
use Rattle.lives.proofs.Standing.{sizes, re, on, over, longer, longer_pair, re_pair, pair_end}
use Rattle.lives.proofs.Judging.{From, from_next, from_pair, from_here, found_at}

-- what a jump that passes has
pub jump_passed : (k p : ℕ) (o : Option ℕ) (i : Item) (rest : Verdict) (u : Unit {0}) → Ok u ≡ jump_judged k p o (Some i) rest → (q : ℕ) × (o ≡ Some q) × (in_reach i (distance p q) ≡ true) × (Ok u ≡ rest)
jump_passed k p None i rest u e = cc
jump_passed k p (Some q) i rest u e = go (in_reach i (distance p q)) refl e
  where
    go : (t : Bool) → in_reach i (distance p q) ≡ t → Ok u ≡ cond t rest (bad k p OutOfReach) → (x : ℕ) × (Some q ≡ Some x) × (in_reach i (distance p x) ≡ true) × (Ok u ≡ rest)
    go true h x = (q, refl, h, x)
    go false h x = cc

-- ---- the items with their distances

settled_none : (ls : List (ℕ × ℕ)) (is : List Item) → settled ls is [] ≡ is
settled_none ls [] = refl
settled_none ls (i ∷ is) = refl

settled_plain : (ls : List (ℕ × ℕ)) (i : Item) (is : List Item) (js : List (ℕ × ℕ)) → jumps i ≡ false → settled ls (i ∷ is) js ≡ i ∷ settled ls is js
settled_plain ls i is [] p = ap (λ ks. i ∷ ks) (sym (settled_none ls is))
settled_plain ls i is (j ∷ js) p = ap (λ t. cond t (aimed_at i (distance_to j.0 (place_of ls j.1)) ∷ settled ls is js) (i ∷ settled ls is (j ∷ js))) p

settled_pair : (ls : List (ℕ × ℕ)) (d v : ℤ) (is : List Item) (js : List (ℕ × ℕ)) → settled ls (upper d v ∷ lower d v ∷ is) js ≡ upper d v ∷ lower d v ∷ settled ls is js
settled_pair ls d v is js =
    settled_plain ls (upper d v) (lower d v ∷ is) js (pair_laws.upper_stays d v) ∙ ap (λ ks. upper d v ∷ ks) (settled_plain ls (lower d v) is js (pair_laws.lower_stays d v))

settled_jump : (ls : List (ℕ × ℕ)) (at l q : ℕ) (i : Item) (is : List Item) (js : List (ℕ × ℕ)) → jumps i ≡ true → place_of ls l ≡ Some q →
    settled ls (i ∷ is) ((at, l) ∷ js) ≡ aimed_at i (distance at q) ∷ settled ls is js
settled_jump ls at l q i is js p e =
    ap (λ t. cond t (aimed_at i (distance_to at (place_of ls l)) ∷ settled ls is js) (i ∷ settled ls is ((at, l) ∷ js))) p
    ∙ ap (λ o. aimed_at i (distance_to at o) ∷ settled ls is js) e

-- ---- what is put

pub laid_next : (ls : List (ℕ × ℕ)) (used : ℕ) (j : ℕ × ℕ) (js : List (ℕ × ℕ)) (cells : List ℕ) → laid ls used (j ∷ js) cells ≡ laid ls used js (applied (jump_puts ls used cells j) cells)
laid_next ls used j js cells = applied-append (jump_puts ls used cells j) (seal_puts ls used js (applied (jump_puts ls used cells j) cells)) cells

-- the halfwords of a jump that leads to its label
pub jump_is_put : (ls : List (ℕ × ℕ)) (used at l q : ℕ) (i : Item) (cells : List ℕ) → place_of ls l ≡ Some q → jump_standing cells used at ≡ Some i → in_reach i (distance at q) ≡ true →
    jump_puts ls used cells (at, l) ≡ puts at (words (aimed_at i (distance at q)))
jump_is_put ls used at l q i cells e a r =
    ap (λ o. aimed_puts at o (jump_standing cells used at)) e
    ∙ ap (aimed_puts at (Some q)) a
    ∙ ap (λ t. cond t (puts at (words (aimed_at i (distance at q)))) []) r

-- halfwords put elsewhere are not seen
pub put_beside : (p k : ℕ) (hs cells : List ℕ) → Beside p (length hs) k → get_or (applied (puts p hs) cells) k 0 ≡ get_or cells k 0
put_beside p k [] cells b = refl
put_beside p k (h ∷ hs) cells b =
    put_beside (suc p) k hs (set cells p h) (elim b [ inl x ↦ inl (omega arith) | inr x ↦ inr (omega arith) ])
    ∙ get_or-set_other cells p k h 0 (λ e. elim b [ inl x ↦ omega arith | inr x ↦ omega arith ])

-- ---- a seal, over the items from one place on

-- What a seal whose test is passed makes of items, of jumps and slots that stand among them, and of their halfwords.
pub record Settled (ls : List (ℕ × ℕ)) (code : List Item) (used at : ℕ) (is : List Item) (js : List (ℕ × ℕ)) (ss : List Slot) : Type 0 where
  pub stands : Stands (Aims ls) at (settled ls is js) js ss
  pub sized : sizes (settled ls is js) ≡ sizes is
  pub cells : (pre post : List ℕ) → length pre ≡ at → laid ls used js (pre ++ (halfs is ++ post)) ≡ pre ++ (halfs (settled ls is js) ++ post)
  pub beside : (pre post : List ℕ) → length pre ≡ at → (k : ℕ) → BesideJumps code js k → get_or (laid ls used js (pre ++ (halfs is ++ post))) k 0 ≡ get_or (pre ++ (halfs is ++ post)) k 0

module _ (ls : List (ℕ × ℕ)) (code : List Item) (used : ℕ) where
  -- past a plain item
  plain_settled : {at : ℕ} (i : Item) {is : List Item} {js : List (ℕ × ℕ)} {ss : List Slot} → jumps i ≡ false →
      ((ks : List Item) → Stands (Aims ls) (at + length (words i)) ks js ss → Stands (Aims ls) at (i ∷ ks) js ss) →
      Settled ls code used (at + length (words i)) is js ss → Settled ls code used at (i ∷ is) js ss
  plain_settled {at} i {is} {js} {ss} p f r =
      let e = settled_plain ls i is js p in
      record {
        stands = subst (λ ks. Stands (Aims ls) at ks js ss) (sym e) (f (settled ls is js) r.stands);
        sized = ap sizes e ∙ ap (λ xs. length (words i) ∷ xs) r.sized;
        cells = λ pre post l.
            on (laid ls used js) pre (words i) (halfs is) (halfs (settled ls is js)) post (r.cells (pre ++ words i) post (longer pre (words i) at l))
            ∙ ap (λ ks. pre ++ (halfs ks ++ post)) (sym e);
        beside = λ pre post l k b.
            subst (λ xs. get_or (laid ls used js xs) k 0 ≡ get_or xs k 0) (sym (re pre (words i) (halfs is) post)) (r.beside (pre ++ words i) post (longer pre (words i) at l) k b);
      }

  -- past a slot's pair
  pair_settled : {at : ℕ} (d v : ℤ) {is : List Item} {js : List (ℕ × ℕ)} {ss ts : List Slot} →
      ((ks : List Item) → Stands (Aims ls) (at + 4) ks js ss → Stands (Aims ls) at (upper d v ∷ lower d v ∷ ks) js ts) →
      Settled ls code used (at + 4) is js ss → Settled ls code used at (upper d v ∷ lower d v ∷ is) js ts
  pair_settled {at} d v {is} {js} {ss} {ts} f r =
      let e = settled_pair ls d v is js in
      record {
        stands = subst (λ ks. Stands (Aims ls) at ks js ts) (sym e) (f (settled ls is js) r.stands);
        sized = ap sizes e ∙ ap (λ xs. length (words (upper d v)) ∷ length (words (lower d v)) ∷ xs) r.sized;
        cells = λ pre post l.
            ap (laid ls used js) (re_pair pre d v is post)
            ∙ r.cells (pre ++ pair d v) post (longer_pair pre d v at l)
            ∙ sym (re_pair pre d v (settled ls is js) post)
            ∙ ap (λ ks. pre ++ (halfs ks ++ post)) (sym e);
        beside = λ pre post l k b.
            subst (λ xs. get_or (laid ls used js xs) k 0 ≡ get_or xs k 0) (sym (re_pair pre d v is post)) (r.beside (pre ++ pair d v) post (longer_pair pre d v at l) k b);
      }

-- past a jump in reach of its label
module _ (ls : List (ℕ × ℕ)) (code : List Item) (used at l q : ℕ) (i : Item) (is : List Item) (js : List (ℕ × ℕ)) (w : Lawful i) (p : jumps i ≡ true) (f : From code at (i ∷ is)) (h : at + length (halfs (i ∷ is)) ≤ used)
    (e : place_of ls l ≡ Some q) (r : in_reach i (distance at q) ≡ true) where
  aimed : Item
  aimed = aimed_at i (distance at q)

  long : length (words aimed) ≡ length (words i)
  unfolding aimed
  long = jump_laws.sized i (distance at q)

  put_is : (pre post : List ℕ) → length pre ≡ at → jump_puts ls used (pre ++ (halfs (i ∷ is) ++ post)) (at, l) ≡ puts at (words aimed)
  unfolding aimed
  put_is pre post n =
      let k = length-append (words i) (halfs is) in
      jump_is_put ls used at l q i (pre ++ (halfs (i ∷ is) ++ post)) e (found_at pre i is post at used (jump_laws.found i pre (halfs is ++ post) used w p (omega arith)) n (pre ++ (halfs (i ∷ is) ++ post)) refl) r

  -- the store with the jump's halfwords put
  written : (pre post : List ℕ) → length pre ≡ at → applied (puts at (words aimed)) (pre ++ (halfs (i ∷ is) ++ post)) ≡ (pre ++ words aimed) ++ (halfs is ++ post)
  written pre post n =
      ap (λ xs. applied (puts at (words aimed)) (pre ++ xs)) (append_assoc (words i) (halfs is) post)
      ∙ over pre (words i) (words aimed) (halfs is ++ post) at n (sym long)
      ∙ sym (append_assoc pre (words aimed) (halfs is ++ post))

  laid_on : (pre post : List ℕ) → length pre ≡ at → laid ls used ((at, l) ∷ js) (pre ++ (halfs (i ∷ is) ++ post)) ≡ laid ls used js ((pre ++ words aimed) ++ (halfs is ++ post))
  laid_on pre post n =
      laid_next ls used (at, l) js (pre ++ (halfs (i ∷ is) ++ post))
      ∙ ap (λ ps. laid ls used js (applied ps (pre ++ (halfs (i ∷ is) ++ post)))) (put_is pre post n)
      ∙ ap (laid ls used js) (written pre post n)

  left_beside : (pre post : List ℕ) → length pre ≡ at → (k : ℕ) → BesideItem at (item_at 0 code at) k → get_or ((pre ++ words aimed) ++ (halfs is ++ post)) k 0 ≡ get_or (pre ++ (halfs (i ∷ is) ++ post)) k 0
  left_beside pre post n k b =
      let b₁ : Beside at (length (words i)) k = subst (λ o. BesideItem at o k) (from_here code at i is f) b in
      ap (λ xs. get_or xs k 0) (sym (written pre post n))
      ∙ put_beside at k (words aimed) (pre ++ (halfs (i ∷ is) ++ post)) (subst (λ m. Beside at m k) (sym long) b₁)

  jump_settled : {ss : List Slot} → Settled ls code used (at + length (words i)) is js ss → Settled ls code used at (i ∷ is) ((at, l) ∷ js) ss
  unfolding aimed
  jump_settled {ss} s =
      let g : settled ls (i ∷ is) ((at, l) ∷ js) ≡ aimed ∷ settled ls is js = settled_jump ls at l q i is js p e in
      let onward : (pre : List ℕ) → length pre ≡ at → length (pre ++ words aimed) ≡ at + length (words i) = λ pre n. longer pre (words aimed) at n ∙ ap (λ m. at + m) long in
      record {
        stands = subst (λ ks. Stands (Aims ls) at ks ((at, l) ∷ js) ss) (sym g)
            (jump l aimed (settled ls is js) js (jump_laws.aimed i (distance at q) w p r) (jump_laws.still i (distance at q) ∙ p) (q, e, jump_laws.told i (distance at q))
            (subst (λ m. Stands (Aims ls) (at + m) (settled ls is js) js ss) (sym long) s.stands));
        sized = ap sizes g ∙ ap (λ m. m ∷ sizes (settled ls is js)) long ∙ ap (λ xs. length (words i) ∷ xs) s.sized;
        cells = λ pre post n.
            laid_on pre post n
            ∙ s.cells (pre ++ words aimed) post (onward pre n)
            ∙ sym (re pre (words aimed) (halfs (settled ls is js)) post)
            ∙ ap (λ ks. pre ++ (halfs ks ++ post)) (sym g);
        beside = λ pre post n k b.
            ap (λ xs. get_or xs k 0) (laid_on pre post n)
            ∙ s.beside (pre ++ words aimed) post (onward pre n) k b.1
            ∙ left_beside pre post n k b.0;
      }

module _ (ls : List (ℕ × ℕ)) (code : List Item) (used : ℕ) where
  pub settle : {at : ℕ} {is : List Item} {js : List (ℕ × ℕ)} {ss : List Slot} → Stands Any at is js ss → From code at is → at + length (halfs is) ≤ used → (k : ℕ) (u : Unit {0}) → Ok u ≡ sealed_from k ls code js →
      Settled ls code used at is js ss
  settle none f h k u a = record { stands = none; sized = refl; cells = λ pre post l. refl; beside = λ pre post l k b. refl }
  settle {at} (some i is w p s) f h k u a =
      let n = length-append (words i) (halfs is) in
      plain_settled ls code used i p (λ ks t. some i ks w p t) (settle s (from_next code at i is f) (omega arith) k u a)
  settle {at} (jump l i is js w p q s) f h k u a =
      let n = length-append (words i) (halfs is) in
      let ok = jump_passed k at (place_of ls l) i (sealed_from (suc k) ls code js) u (a ∙ ap (λ o. jump_judged k at (place_of ls l) o (sealed_from (suc k) ls code js)) (from_here code at i is f)) in
      jump_settled ls code used at l ok.0 i is js w p f h ok.1 ok.2 (settle s (from_next code at i is f) (omega arith) (suc k) u ok.3)
  settle {at} (slot d v is ss r m s) f h k u a =
      let n = pair_end d v is in
      pair_settled ls code used d v (λ ks t. slot d v ks ss r m t) (settle s (from_pair code at d v is f) (omega arith) k u a)
