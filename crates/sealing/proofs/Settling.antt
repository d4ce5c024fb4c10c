-- Jumps settled one after the other. Assumes nothing.
use Rattle.std.proofs.Common.{◌≡◌, ℕ, zero, suc, ◌+◌, ◌<◌, ◌≤◌, Bool, true, false, cond, List, [], ◌∷◌, map, length, get_or, take, drop, set, ℤ, Option, Some, None, IfSome, inl, inr, min, sym, refl, ap, ◌∙◌, subst, length-take, add-one, not-suc-le-zero, le_of_suc-le-suc, arith}
use Rattle.std.proofs.lemmas.List.{drop_more, get_or-take}
use Rattle.std.proofs.lemmas.Bool.{cases_lt}
use Rattle.store.specs.Puts.{applied}
use Rattle.store.proofs.Puts.{applied-append}
use Rattle.instructions.specs.declared.word.Halfwords.{Halfwords}
use Rattle.instructions.specs.Words.{listed}
use Rattle.records.specs.declared.book.JumpRecord.{JumpRecord}
use Rattle.records.specs.Records.{jump_of, no_jump}
use Rattle.aiming.specs.Standing.{listed_of}
use Rattle.items.specs.Items.{Item, words, in_reach, aimed_at, aimed_words, jump_standing}
use Rattle.items.proofs.Leaps.{jump_laws}
use Rattle.sealing.specs.Sealing.{jump_puts, seal_puts, settled_record, noted, laid}

-- ---- a jump's halfwords at another distance lie where its own did

pub lies : (cells : List ℕ) (used p : ℕ) (i : Item) (z : ℤ) (r : Option Halfwords) → jump_standing cells used p ≡ Some i → listed_of r ≡ aimed_words i z → IfSome r (λ h. p + length (listed h) ≤ length cells)
lies cells used p i z None e h = tt
lies cells used p i z (Some x) e h = by (in_reach i z) h
  where
    by : (b : Bool) → Some (listed x) ≡ cond b (Some (words (aimed_at i z))) None → p + length (listed x) ≤ length cells
    by true q =
        let f : listed x ≡ words (aimed_at i z) = cc in
        let n = ap length f ∙ jump_laws.sized i z in
        let s = (jump_laws.stands cells used p i e).3 in
        omega arith
    by false q = cc

-- ---- what is noted

noted_at : (ls : List (ℕ × ℕ)) (k : ℕ) (rs : List JumpRecord) → get_or (noted ls k rs) k no_jump ≡ get_or rs k no_jump
noted_at ls zero rs = refl
noted_at ls (suc k) [] = refl
noted_at ls (suc k) (r ∷ rs) = noted_at ls k rs

noted_suc : (ls : List (ℕ × ℕ)) (k : ℕ) (rs : List JumpRecord) → k < length rs → set (noted ls k rs) k (settled_record ls (get_or rs k no_jump)) ≡ noted ls (suc k) rs
noted_suc ls zero [] h = absurd (not-suc-le-zero h)
noted_suc ls zero (r ∷ rs) h = refl
noted_suc ls (suc k) [] h = refl
noted_suc ls (suc k) (r ∷ rs) h = ap (λ xs. settled_record ls r ∷ xs) (noted_suc ls k rs (le_of_suc-le-suc h))

length-noted : (ls : List (ℕ × ℕ)) (k : ℕ) (rs : List JumpRecord) → length (noted ls k rs) ≡ length rs
length-noted ls zero rs = refl
length-noted ls (suc k) [] = refl
length-noted ls (suc k) (r ∷ rs) = ap suc (length-noted ls k rs)

-- one record more, where the first k are noted
pub noted_step : (ls : List (ℕ × ℕ)) (k : ℕ) (rs now : List JumpRecord) (r : JumpRecord) → k < length now → now ≡ noted ls k rs → r ≡ settled_record ls (get_or now k no_jump) → set now k r ≡ noted ls (k + 1) rs
noted_step ls k rs now r h e q =
    let l : k < length rs = subst (λ n. k < n) (ap length e ∙ length-noted ls k rs) h in
    ap (set now k) (q ∙ ap (λ xs. settled_record ls (get_or xs k no_jump)) e ∙ ap (settled_record ls) (noted_at ls k rs))
    ∙ ap (λ xs. set xs k (settled_record ls (get_or rs k no_jump))) e
    ∙ noted_suc ls k rs l
    ∙ ap (λ j. noted ls j rs) (sym (add-one k))

-- the record k still stands as it was, where the first k are noted
noted_next : (ls : List (ℕ × ℕ)) (k n : ℕ) (rs now : List JumpRecord) → k < n → now ≡ noted ls k rs → get_or now k no_jump ≡ get_or (take n rs) k no_jump
noted_next ls k n rs now h e = ap (λ xs. get_or xs k no_jump) e ∙ noted_at ls k rs ∙ sym (get_or-take n rs k no_jump h)

noted_all : (ls : List (ℕ × ℕ)) (k n : ℕ) (rs : List JumpRecord) → length rs ≤ k → length rs ≤ n → noted ls k rs ≡ noted ls n rs
noted_all ls zero zero rs h m = refl
noted_all ls zero (suc n) [] h m = refl
noted_all ls zero (suc n) (r ∷ rs) h m = absurd (not-suc-le-zero h)
noted_all ls (suc k) zero [] h m = refl
noted_all ls (suc k) zero (r ∷ rs) h m = absurd (not-suc-le-zero m)
noted_all ls (suc k) (suc n) [] h m = refl
noted_all ls (suc k) (suc n) (r ∷ rs) h m = ap (λ xs. settled_record ls r ∷ xs) (noted_all ls k n rs (le_of_suc-le-suc h) (le_of_suc-le-suc m))

-- where there are fewer records than count, all are noted
pub noted_end : (ls : List (ℕ × ℕ)) (k n : ℕ) (rs now : List JumpRecord) → k ≡ min n (length now) → now ≡ noted ls k rs → now ≡ noted ls n rs
noted_end ls k n rs now e q =
    let l : length now ≡ length rs = ap length q ∙ length-noted ls k rs in
    q ∙ elim (cases_lt n (length rs)) [
      | inl h ↦ ap (λ j. noted ls j rs) (omega arith)
      | inr h ↦ noted_all ls k n rs (omega arith) (omega arith)
    ]

-- ---- what is written

pub laid_cons : (ls : List (ℕ × ℕ)) (used : ℕ) (j : ℕ × ℕ) (js : List (ℕ × ℕ)) (cells : List ℕ) → laid ls used (j ∷ js) cells ≡ laid ls used js (applied (jump_puts ls used cells j) cells)
laid_cons ls used j js cells = applied-append (jump_puts ls used cells j) (seal_puts ls used js (applied (jump_puts ls used cells j) cells)) cells

-- one jump more, where the records before it are noted: those after it give the rest
pub laid_step : (ls : List (ℕ × ℕ)) (used : ℕ) (rs now : List JumpRecord) (n k : ℕ) (cells later : List ℕ) → k < length now → k < n → now ≡ noted ls k rs → later ≡ applied (jump_puts ls used cells (jump_of (get_or now k no_jump))) cells → laid ls used (map jump_of (drop k (take n rs))) cells ≡ laid ls used (map jump_of (drop (k + 1) (take n rs))) later
laid_step ls used rs now n k cells later h c e after =
    let l : k < length rs = subst (λ m. k < m) (ap length e ∙ length-noted ls k rs) h in
    let t : k < length (take n rs) = simp length-take (omega arith) in
    let x = get_or (take n rs) k no_jump in
    ap (λ t. laid ls used (map jump_of t) cells) (drop_more (take n rs) k no_jump t)
    ∙ laid_cons ls used (jump_of x) (map jump_of (drop (k + 1) (take n rs))) cells
    ∙ ap (λ r. laid ls used (map jump_of (drop (k + 1) (take n rs))) (applied (jump_puts ls used cells (jump_of r)) cells)) (sym (noted_next ls k n rs now c e))
    ∙ ap (λ t. laid ls used (map jump_of (drop (k + 1) (take n rs))) t) (sym after)
