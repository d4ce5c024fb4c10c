-- Where every jump passed the test, each leads to its label once all are written. Assumes nothing.
use Rattle.std.proofs.Common.{◌≡◌, ℕ, suc, ◌+◌, ◌≤◌, Bool, true, false, cond, ◌||◌, ◌⊎◌, List, [], ◌∷◌, ◌++◌, length, Ok, Option, Some, None, sym, refl, ap, ◌∙◌, subst, inl, inr, append_assoc, leb, arith}
use Rattle.std.proofs.lemmas.Bool.{leb-true, and_parts, or_cases}
use Rattle.store.specs.Puts.{applied, puts}
use Rattle.records.specs.Records.{place_of}
use Rattle.items.specs.Items.{Item, words, in_reach, aimed_at, distance, jump_standing}
use Rattle.items.proofs.Leaps.{jump_laws}
use Rattle.sealing.specs.declared.faults.JumpCause.TheVariants.{OutOfReach}
use Rattle.sealing.specs.Sealing.{Verdict, bad, jump_judged, size_at, two_apart, apart, where_apart, tested_from, aimed_puts, jump_puts, laid, EachAims}
use Rattle.sealing.proofs.Settling.{laid_cons}

-- ---- what a jump that passes has

record Passes (p : ℕ) (o : Option ℕ) (a : Bool) (s : Option Item) : Type 0 where
  q : ℕ
  i : Item
  bound : o ≡ Some q
  clear : a ≡ true
  here : s ≡ Some i
  near : in_reach i (distance p q) ≡ true

passes : (k p : ℕ) (o : Option ℕ) (a : Bool) (s : Option Item) (rest : Verdict) → jump_judged k p o (where_apart a s) rest ≡ Ok tt → Passes p o a s × (rest ≡ Ok tt)
passes k p None a s rest e = cc
passes k p (Some q) false s rest e = cc
passes k p (Some q) true None rest e = cc
passes k p (Some q) true (Some i) rest e = by (in_reach i (distance p q)) refl e
  where
    by : (b : Bool) → in_reach i (distance p q) ≡ b → cond b rest (bad k p OutOfReach) ≡ Ok tt → Passes p (Some q) true (Some i) × (rest ≡ Ok tt)
    by true n e = (record { q = q; i = i; bound = refl; clear = refl; here = refl; near = n }, e)
    by false n e = cc

-- ---- words that share no halfword

-- the word at p shares none with those of the jumps after it
abbrev Beside : List ℕ → ℕ → List (ℕ × ℕ) → Type 0
Beside cells p [] = Unit {0}
Beside cells p (j ∷ js) = (two_apart cells p j.0 ≡ true) × Beside cells p js

apart_from : (cells : List ℕ) (before after : List (ℕ × ℕ)) (j : ℕ × ℕ) (p : ℕ) → apart cells (before ++ (j ∷ after)) p ≡ true → two_apart cells j.0 p ≡ true
apart_from cells [] after j p e = (and_parts (two_apart cells j.0 p) (apart cells after p) e).0
apart_from cells (b ∷ before) after j p e = apart_from cells before after j p (and_parts (two_apart cells b.0 p) (apart cells (before ++ (j ∷ after)) p) e).1

-- those that pass share none with a jump before them
beside : (k : ℕ) (ls : List (ℕ × ℕ)) (cells : List ℕ) (used : ℕ) (before after : List (ℕ × ℕ)) (j : ℕ × ℕ) (js : List (ℕ × ℕ)) → tested_from k ls cells used (before ++ (j ∷ after)) js ≡ Ok tt → Beside cells j.0 js
beside k ls cells used before after j [] e = tt
beside k ls cells used before after j (x ∷ js) e =
    let h = passes k x.0 (place_of ls x.1) (apart cells (before ++ (j ∷ after)) x.0) (jump_standing cells used x.0) (tested_from (suc k) ls cells used ((before ++ (j ∷ after)) ++ (x ∷ [])) js) e in (
      apart_from cells before after j x.0 h.0.clear,
      beside (suc k) ls cells used before (after ++ (x ∷ [])) j js (ap (λ t. tested_from (suc k) ls cells used t js) (sym (append_assoc before (j ∷ after) (x ∷ []))) ∙ h.1),
    )

-- two words of these sizes
split : (a b m n : ℕ) → (leb (a + m) b || leb (b + n) a) ≡ true → (a + m ≤ b) ⊎ (b + n ≤ a)
split a b m n e = elim (or_cases (leb (a + m) b) (leb (b + n) a) e) [ inl h ↦ inl (leb-true (a + m) b h) | inr h ↦ inr (leb-true (b + n) a h) ]

-- ---- jumps that stand in some store, their sizes as in the first

-- each is bound, stands and is in reach, and shares no halfword with those after it
abbrev Stand : List (ℕ × ℕ) → ℕ → List ℕ → List ℕ → List (ℕ × ℕ) → Type 0
Stand ls used first cells [] = Unit {0}
Stand ls used first cells (j ∷ js) =
    ((q : ℕ) × (i : Item) × (place_of ls j.1 ≡ Some q) × (jump_standing cells used j.0 ≡ Some i) × (in_reach i (distance j.0 q) ≡ true) × (length (words i) ≡ size_at first j.0))
    × Beside first j.0 js × Stand ls used first cells js

stand : (k : ℕ) (ls : List (ℕ × ℕ)) (cells : List ℕ) (used : ℕ) (before js : List (ℕ × ℕ)) → tested_from k ls cells used before js ≡ Ok tt → Stand ls used cells cells js
stand k ls cells used before [] e = tt
stand k ls cells used before (j ∷ js) e =
    let h = passes k j.0 (place_of ls j.1) (apart cells before j.0) (jump_standing cells used j.0) (tested_from (suc k) ls cells used (before ++ (j ∷ [])) js) e in
    let o = h.0 in (
      (o.q, o.i, o.bound, o.here, o.near, jump_laws.length_by cells used j.0 o.i o.here),
      beside (suc k) ls cells used before [] j js h.1,
      stand (suc k) ls cells used (before ++ (j ∷ [])) js h.1,
    )

module _ (ls : List (ℕ × ℕ)) (used : ℕ) (first : List ℕ) where
  -- halfwords put where one stood leave those after it
  kept : (cells : List ℕ) (p : ℕ) (hs : List ℕ) (js : List (ℕ × ℕ)) → length hs ≡ size_at first p → Beside first p js → Stand ls used first cells js → Stand ls used first (applied (puts p hs) cells) js
  kept cells p hs [] n b s = tt
  kept cells p hs (j ∷ js) n b s =
      let h = s.0 in
      let d = split p j.0 (size_at first p) (size_at first j.0) b.0 in (
        (h.0, h.1, h.2, jump_laws.left cells used j.0 h.1 p hs h.3 (elim d [ inl a ↦ inr (omega (arith, n)) | inr a ↦ inl (omega (arith, h.5)) ]), h.4, h.5),
        s.1,
        kept cells p hs js n b.1 s.2,
      )

  -- what is put for a jump that stands
  put_for : (cells : List ℕ) (j : ℕ × ℕ) (q : ℕ) (i : Item) → place_of ls j.1 ≡ Some q → jump_standing cells used j.0 ≡ Some i → in_reach i (distance j.0 q) ≡ true → jump_puts ls used cells j ≡ puts j.0 (words (aimed_at i (distance j.0 q)))
  put_for cells j q i a s r =
      ap (λ o. aimed_puts j.0 o (jump_standing cells used j.0)) a ∙ ap (aimed_puts j.0 (Some q)) s ∙ ap (λ b. cond b (puts j.0 (words (aimed_at i (distance j.0 q)))) []) r

  -- a jump that is written stays while those after it are
  stays : (cells : List ℕ) (p : ℕ) (i : Item) (js : List (ℕ × ℕ)) → length (words i) ≡ size_at first p → jump_standing cells used p ≡ Some i → Beside first p js → Stand ls used first cells js → jump_standing (laid ls used js cells) used p ≡ Some i
  stays cells p i [] n e b s = e
  stays cells p i (j ∷ js) n e b s =
      let h = s.0 in
      let z = distance j.0 h.0 in
      let hs = words (aimed_at h.1 z) in
      let m : length hs ≡ size_at first j.0 = jump_laws.sized h.1 z ∙ h.5 in
      let later = applied (puts j.0 hs) cells in
      let w = put_for cells j h.0 h.1 h.2 h.3 h.4 in
      let d = split p j.0 (size_at first p) (size_at first j.0) b.0 in
      ap (λ t. jump_standing t used p) (laid_cons ls used j js cells ∙ ap (λ t. laid ls used js (applied t cells)) w)
      ∙ stays later p i js n (jump_laws.left cells used p i j.0 hs e (elim d [ inl a ↦ inl (omega (arith, n)) | inr a ↦ inr (omega (arith, m)) ])) b.1 (kept cells j.0 hs js m s.1 s.2)

  aims : (cells : List ℕ) (js : List (ℕ × ℕ)) → Stand ls used first cells js → EachAims ls used (laid ls used js cells) js
  aims cells [] s = tt
  aims cells (j ∷ js) s =
      let h = s.0 in
      let z = distance j.0 h.0 in
      let x = aimed_at h.1 z in
      let m : length (words x) ≡ size_at first j.0 = jump_laws.sized h.1 z ∙ h.5 in
      let later = applied (puts j.0 (words x)) cells in
      let rest = kept cells j.0 (words x) js m s.1 s.2 in
      let w : laid ls used (j ∷ js) cells ≡ laid ls used js later = laid_cons ls used j js cells ∙ ap (λ t. laid ls used js (applied t cells)) (put_for cells j h.0 h.1 h.2 h.3 h.4) in
      subst (λ t. EachAims ls used t (j ∷ js)) (sym w)
      ((h.0, x, h.2, stays later j.0 x js m (jump_laws.put cells used j.0 h.1 z h.3 h.4) s.1 rest, jump_laws.told h.1 z), aims later js rest)

-- where all pass, each leads to its label once all are written
pub all_aim : (ls : List (ℕ × ℕ)) (used : ℕ) (js : List (ℕ × ℕ)) (cells now : List ℕ) → now ≡ laid ls used js cells → tested_from 0 ls cells used [] js ≡ Ok tt → EachAims ls used now js
all_aim ls used js cells now w e = subst (λ t. EachAims ls used t js) (sym w) (aims ls used cells cells js (stand 0 ls cells used [] js e))
