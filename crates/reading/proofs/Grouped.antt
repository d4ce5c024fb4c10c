-- The operations that a word can be of are in its group.
use Rattle.std.proofs.Common.{◌≡◌, ℕ, zero, suc, ◌+◌, ◌-◌, ◌*◌, ◌/◌, ◌%◌, ◌^◌, ◌<◌, Bool, true, false, cond, ◌&&◌, eqb, List, [], ◌∷◌, map, length, get_or, sym, refl, ap, ◌∙◌, subst, le_of_suc-le-suc, not-suc-le-zero, zero-lt-suc, suc-le-suc, Bor, arith}
use lib.ListN.{length-map}
use lib.Bits.{bit_and}
use Rattle.std.specs.List.{list_all}
use Rattle.std.proofs.Math.Nat.{mod-mod}
use Rattle.std.proofs.lemmas.Nat.{and_shr, and_mod, and_mask}
use Rattle.std.proofs.lemmas.Bool.{and_parts, eqb-true}
use Rattle.std.proofs.lemmas.Bool.Decides.{nat_tests}
use Rattle.std.proofs.lemmas.List.{get_or-map}
use Rattle.std.proofs.lemmas.List.FromFn.{length-map-range_with_len, get_or-map-range_with_len}
use Rattle.operations.specs.declared.row.Form.{Form}
use Rattle.operations.specs.Manual.{Entry, operations, form_at, no_entry, count}
use Rattle.instructions.proofs.Checks.{every_at}
use Rattle.reading.specs.Groups.{group_of, members_from, members, all_members, group_count}
use Rattle.reading.specs.Reading.{Unread}
use Rattle.reading.proofs.Apart.{in_table, form_fixes}
use Rattle.reading.proofs.Steps.{not_bits}

-- ---- the table of groups

all_at : (i : ℕ) → i < group_count → get_or all_members i [] ≡ members i
unfolding all_members
all_at i h = get_or-map-range_with_len members 0 group_count i i [] h (omega arith)

all_length : length all_members ≡ group_count
unfolding all_members
all_length = length-map-range_with_len members 0 group_count

pub groups_length : (gs : List (Bor (List ℕ))) → map (λ (g : Bor (List ℕ)). g.now) gs ≡ all_members → length gs ≡ group_count
groups_length gs e = sym (length-map gs (λ (g : Bor (List ℕ)). g.now)) ∙ ap length e ∙ all_length

pub members_at : (gs : List (Bor (List ℕ))) → map (λ (g : Bor (List ℕ)). g.now) gs ≡ all_members → (i : ℕ) (d : Bor (List ℕ)) → i < group_count → (get_or gs i d).now ≡ members i
members_at gs e i d h =
    let n = groups_length gs e in
    sym (get_or-map (λ (g : Bor (List ℕ)). g.now) gs i d [] (omega arith)) ∙ ap (λ (xs : List (List ℕ)). get_or xs i []) e ∙ all_at i h

-- ---- a word has the leading codes of each operation whose fixed bits it has

-- where the mask has ones, the word's bits are the fixed ones
low_kept : (w m b k : ℕ) → bit_and w m ≡ b → m % 2 ^ k ≡ 2 ^ k - 1 → w % 2 ^ k ≡ b % 2 ^ k
low_kept w m b k h t =
    sym (ap (λ x. x % 2 ^ k) (sym h) ∙ and_mod w m k ∙ ap (bit_and (w % 2 ^ k)) t ∙ and_mask (w % 2 ^ k) k ∙ mod-mod w (2 ^ k))

kept : (w m b at k : ℕ) → bit_and w m ≡ b → m / 2 ^ at % 2 ^ k ≡ 2 ^ k - 1 → w / 2 ^ at % 2 ^ k ≡ b / 2 ^ at % 2 ^ k
kept w m b at k h t = low_kept (w / 2 ^ at) (m / 2 ^ at) (b / 2 ^ at) k (sym (and_shr w m at) ∙ ap (λ x. x / 2 ^ at) h) t

-- the mask covers the leading codes
abbrev wide_test : Form → Bool
wide_test r = eqb (r.mask / 4 % 32) 31 && cond (eqb (r.bits / 4 % 32) 21) (eqb (r.mask / 2 ^ 26 % 64) 63) true

abbrev leads_test : Form → Bool
leads_test r = eqb (r.mask % 4) 3 && cond (eqb (r.bits % 4) 3) (wide_test r) (eqb (r.mask / 2 ^ 13 % 8) 7)

all_lead : list_all (λ (e : Entry). leads_test e.form) operations ≡ true
unfolding operations
all_lead = refl

abbrev by_codes : ℕ → ℕ → ℕ → ℕ → ℕ
by_codes q o f t = cond (eqb q 3) (cond (eqb o 21) (56 + f) (24 + o)) (q * 8 + t)

same_wide : (o f g : ℕ) → (eqb o 21 ≡ true → f ≡ g) → cond (eqb o 21) (56 + f) (24 + o) ≡ cond (eqb o 21) (56 + g) (24 + o)
same_wide o f g h = go (eqb o 21) refl
  where
    go : (c : Bool) → eqb o 21 ≡ c → cond c (56 + f) (24 + o) ≡ cond c (56 + g) (24 + o)
    go true e = ap (λ x. 56 + x) (h e)
    go false e = refl

same_codes : (q o f t p g u : ℕ) → (eqb q 3 ≡ true → o ≡ p) → (eqb q 3 ≡ true → eqb p 21 ≡ true → f ≡ g) → (eqb q 3 ≡ false → t ≡ u) → by_codes q o f t ≡ by_codes q p g u
same_codes q o f t p g u ho hf ht = go (eqb q 3) refl
  where
    go : (b : Bool) → eqb q 3 ≡ b → cond b (cond (eqb o 21) (56 + f) (24 + o)) (q * 8 + t) ≡ cond b (cond (eqb p 21) (56 + g) (24 + p)) (q * 8 + u)
    go true e = ap (λ o. cond (eqb o 21) (56 + f) (24 + o)) (ho e) ∙ same_wide p f g (hf e)
    go false e = ap (λ t. q * 8 + t) (ht e)

same_group : (r : Form) (w : ℕ) → leads_test r ≡ true → bit_and w r.mask ≡ r.bits → group_of w ≡ group_of r.bits
same_group r w t h =
    let m = r.mask in
    let x = r.bits in
    let p = and_parts (eqb (m % 4) 3) _ t in
    let q : w % 4 ≡ x % 4 = low_kept w m x 2 h (eqb-true (m % 4) 3 p.0) in
    let wide : eqb (x % 4) 3 ≡ true → wide_test r ≡ true = λ e. subst (λ b. cond b (wide_test r) (eqb (m / 2 ^ 13 % 8) 7) ≡ true) e p.1 in
    let short : eqb (x % 4) 3 ≡ false → eqb (m / 2 ^ 13 % 8) 7 ≡ true = λ e. subst (λ b. cond b (wide_test r) (eqb (m / 2 ^ 13 % 8) 7) ≡ true) e p.1 in
    ap (λ q. by_codes q (w / 4 % 32) (w / 2 ^ 26 % 64) (w / 2 ^ 13 % 8)) q
    ∙ same_codes (x % 4) (w / 4 % 32) (w / 2 ^ 26 % 64) (w / 2 ^ 13 % 8) (x / 4 % 32) (x / 2 ^ 26 % 64) (x / 2 ^ 13 % 8)
    (λ e. kept w m x 2 5 h (eqb-true (m / 4 % 32) 31 (and_parts (eqb (m / 4 % 32) 31) _ (wide e)).0))
    (λ e o. kept w m x 26 6 h (eqb-true (m / 2 ^ 26 % 64) 63 (subst (λ b. cond b (eqb (m / 2 ^ 26 % 64) 63) true ≡ true) o (and_parts (eqb (m / 4 % 32) 31) _ (wide e)).1)))
    (λ e. kept w m x 13 3 h (eqb-true (m / 2 ^ 13 % 8) 7 (short e)))

-- ---- so it is in the word's group

pub record Among (xs : List ℕ) (x : ℕ) : Type 0 where
  pub place : ℕ
  pub inside : place < length xs
  pub is : get_or xs place 0 ≡ x

further : (y : ℕ) (xs : List ℕ) (x : ℕ) → Among xs x → Among (y ∷ xs) x
further y xs x a = record { place = suc a.place; inside = suc-le-suc a.inside; is = a.is }

either : (b : Bool) (y : ℕ) (xs : List ℕ) (x : ℕ) → Among xs x → Among (cond b (y ∷ xs) xs) x
either true y xs x a = further y xs x a
either false y xs x a = a

among_members : (k : ℕ) (es : List Entry) (g i : ℕ) → i < length es → group_of (get_or es i no_entry).form.bits ≡ g → Among (members_from k es g) (k + i)
among_members k [] g i h e = absurd (not-suc-le-zero h)
among_members k (x ∷ es) g zero h e =
    let t : eqb (group_of x.form.bits) g ≡ true = grind (arith, nat_tests) in
    subst (λ b. Among (cond b (k ∷ members_from (k + 1) es g) (members_from (k + 1) es g)) (k + 0)) (sym t)
    (record { place = 0; inside = zero-lt-suc _; is = omega arith })
among_members k (x ∷ es) g (suc i) h e =
    let s : k + 1 + i ≡ k + suc i = omega arith in
    either (eqb (group_of x.form.bits) g) k (members_from (k + 1) es g) (k + suc i)
    (subst (Among (members_from (k + 1) es g)) s (among_members (k + 1) es g i (le_of_suc-le-suc h) e))

-- the operation at k, if the word has its fixed bits
pub grouped : (w k : ℕ) → k < count → bit_and w (form_at k).mask ≡ (form_at k).bits → Among (members (group_of w)) k
grouped w k h e =
    let z : 0 + k ≡ k = omega arith in
    subst (Among (members (group_of w))) z (among_members 0 operations (group_of w) k (in_table h)
    (sym (same_group (form_at k) w (every_at (λ (e : Entry). leads_test e.form) operations no_entry all_lead k (in_table h)) e)))

-- what none of the group has, no operation has
pub unread_all : (w : ℕ) (xs : List ℕ) → xs ≡ members (group_of w) → ((j : ℕ) → j < length xs → get_or xs j 0 < count → Unread (get_or xs j 0) w) → (k : ℕ) → k < count → Unread k w
unread_all w xs e n k h = go (eqb (bit_and w (form_at k).mask) (form_at k).bits) refl
  where
    go : (b : Bool) → eqb (bit_and w (form_at k).mask) (form_at k).bits ≡ b → Unread k w
    go true t =
        let a = subst (λ (xs : List ℕ). Among xs k) (sym e) (grouped w k h (eqb-true (bit_and w (form_at k).mask) (form_at k).bits t)) in
        subst (λ k. Unread k w) a.is (n a.place a.inside (subst (λ k. k < count) (sym a.is) h))
    go false t =
        record { none = λ f o v. not_bits (form_at k) w (form_fixes k h) (λ q. let d : ⊥ = grind (arith, nat_tests) in d) f v }
