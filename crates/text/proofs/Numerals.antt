-- What a text writes, and the numeral of an integer.
use Rattle.std.proofs.Common.{◌≡◌, ℕ, zero, suc, ◌+◌, ◌-◌, ◌*◌, ◌/◌, ◌%◌, ◌^◌, ◌<◌, ◌≤◌, true, false, ◌&&◌, eqb, ltb, leb, List, [], ◌∷◌, ◌++◌, map, length, get_or, drop, ℤ, pos, negsuc, Some, None, Option, sym, refl, ap, ◌∙◌, subst, ⊎_elim, arith}
use Rattle.std.specs.Int.Digits.{digits_of, AllBelowBase, number_from_digits_after}
use Rattle.std.proofs.lemmas.Int.Digits.{digits_of_step, all_below_base_digits_of, first_digits_of, number_digits_of, length-digits_of_step, length-digits_of-le}
use Rattle.std.proofs.lemmas.List.{append-nil, append_assoc, map-append, length-map}
use Rattle.std.proofs.lemmas.Int.{ints}
use Rattle.std.proofs.lemmas.Bool.{both_ways, cond-true, cond-false, eq-eqb, ne_eqb, eqb-true, lt-ltb, le-ltb, cases_eq, cases_lt, cases_Bool, and_parts, leb-true, le-leb, and_from, and_left}
use Rattle.text.specs.Decimal.{digits, numeral}
use Rattle.text.specs.Numbers.{Within, is_digit, value_after, natural_of, plain, negated, number_of, NumeralsExact}

abbrev ascii : ℕ → ℕ
ascii d = 48 + d

digits_positive : (n : ℕ) → 0 < n → digits n ≡ map ascii (digits_of 10 n)
digits_positive n l = cond-false (eqb n 0) (48 ∷ []) (map ascii (digits_of 10 n)) (ne_eqb n 0 (λ e. omega arith))

-- the digits of a number are those of its tenth and its last
pub digits_more : (n : ℕ) → 10 ≤ n → digits n ≡ digits (n / 10) ++ ((48 + n % 10) ∷ [])
digits_more n l =
    digits_positive n (omega arith) ∙ ap (map ascii) (digits_of_step 10 n (omega arith) (omega arith)) ∙ map-append ascii (digits_of 10 (n / 10)) (n % 10 ∷ []) ∙ ap (λ r. r ++ ((48 + n % 10) ∷ [])) (sym (digits_positive (n / 10) (omega arith)))

-- one digit
pub digits_one : (n : ℕ) → n < 10 → digits n ≡ (48 + n) ∷ []
digits_one zero l = refl
digits_one (suc n) l =
    digits_positive (suc n) (omega arith) ∙ ap (map ascii) (digits_of_step 10 (suc n) (omega arith) (omega arith)) ∙ map-append ascii (digits_of 10 (suc n / 10)) (suc n % 10 ∷ []) ∙ last
  where
    last : map ascii (digits_of 10 (suc n / 10)) ++ ((48 + suc n % 10) ∷ []) ≡ (48 + suc n) ∷ []
    last =
        let q : suc n / 10 ≡ 0 = omega arith in
        let r : 48 + suc n % 10 ≡ 48 + suc n = omega arith in
        ap (λ k. map ascii (digits_of 10 k) ++ ((48 + suc n % 10) ∷ [])) q ∙ ap (λ k. k ∷ []) r

digits_push : (n d : ℕ) → 0 < n → d < 10 → digits (n * 10 + d) ≡ digits n ++ ((48 + d) ∷ [])
digits_push n d p l =
    let q : (n * 10 + d) / 10 ≡ n = omega arith in
    let r : 48 + (n * 10 + d) % 10 ≡ 48 + d = omega arith in
    digits_more (n * 10 + d) (omega arith) ∙ ap (λ k. digits k ++ ((48 + (n * 10 + d) % 10) ∷ [])) q ∙ ap (λ k. digits n ++ (k ∷ [])) r

-- no more digits than places
pub length-digits_le : (k n : ℕ) → 1 ≤ k → n < 10 ^ k → length (digits n) ≤ k
length-digits_le k n p l =
    ⊎_elim (λ e. omega (arith, ap (λ m. length (digits m)) e))
    (λ e. omega (arith, ap length (digits_positive n (omega arith)), length-map (digits_of 10 n) ascii, length-digits_of-le 10 k n (omega arith) l))
    (cases_eq n 0)

some_digits_of : (n : ℕ) → 0 < n → 0 < length (digits_of 10 n)
some_digits_of n p = omega (arith, length-digits_of_step 10 n (omega arith) p)

-- from a text to the number

digit_parts : (c : ℕ) → is_digit c ≡ true → (48 ≤ c) × (c < 58)
digit_parts c e =
    let p = and_parts (leb 48 c) (leb c 57) e in
    (leb-true 48 c p.0, omega (arith, leb-true c 57 p.1))

no_some : {P : Type 0} (m : ℕ) → None ≡ Some m → P
no_some m e = let z : ◌≡◌ {A = ℕ} 0 1 = cc in absurd (omega arith)

value_digit : (n c m : ℕ) (cs : List ℕ) → value_after n (c ∷ cs) ≡ Some m → (is_digit c ≡ true) × (value_after (n * 10 + (c - 48)) cs ≡ Some m)
value_digit n c m cs e =
    ⊎_elim (λ t. (t, sym (cond-true (is_digit c) (value_after (n * 10 + (c - 48)) cs) None t) ∙ e))
    (λ f. no_some m (sym (cond-false (is_digit c) (value_after (n * 10 + (c - 48)) cs) None f) ∙ e))
    (cases_Bool (is_digit c))

writes_on : (n : ℕ) (cs : List ℕ) (m : ℕ) → 0 < n → value_after n cs ≡ Some m → digits m ≡ digits n ++ cs
writes_on n [] m p e = let q : n ≡ m = cc in ap digits (sym q) ∙ sym (append-nil (digits n))
writes_on n (c ∷ cs) m p e =
    let v = value_digit n c m cs e in
    let d = digit_parts c v.0 in
    let b : 48 + (c - 48) ≡ c = omega arith in
    writes_on (n * 10 + (c - 48)) cs m (omega arith) v.1 ∙ ap (λ r. r ++ cs) (digits_push n (c - 48) p (omega arith) ∙ ap (λ k. digits n ++ (k ∷ [])) b) ∙ append_assoc (digits n) (c ∷ []) cs

-- the first digit is no zero before others
first_kept : (c : ℕ) (cs : List ℕ) (n : ℕ) → natural_of (c ∷ cs) ≡ Some n → ((eqb c 48 && ltb 0 (length cs)) ≡ false) × (value_after 0 (c ∷ cs) ≡ Some n)
first_kept c cs n e =
    ⊎_elim (λ t. no_some n (sym (cond-true (eqb c 48 && ltb 0 (length cs)) None (value_after 0 (c ∷ cs)) t) ∙ e))
    (λ f. (f, sym (cond-false (eqb c 48 && ltb 0 (length cs)) None (value_after 0 (c ∷ cs)) f) ∙ e))
    (cases_Bool (eqb c 48 && ltb 0 (length cs)))

alone : (c : ℕ) (cs : List ℕ) → c ≡ 48 → (eqb c 48 && ltb 0 (length cs)) ≡ false → cs ≡ []
alone c [] e f = refl
alone c (d ∷ cs) e f =
    let t = and_from (eqb c 48) (ltb 0 (length (d ∷ cs))) (eq-eqb c 48 e) (lt-ltb 0 (length (d ∷ cs)) (omega arith)) in
    absurd (both_ways (eqb c 48 && ltb 0 (length (d ∷ cs))) f t)

pub natural_writes : (t : List ℕ) (n : ℕ) → natural_of t ≡ Some n → digits n ≡ t
natural_writes [] n e = no_some n e
natural_writes (c ∷ cs) n e =
    let k = first_kept c cs n e in
    let v = value_digit 0 c n cs k.1 in
    let d = digit_parts c v.0 in
    let a : 0 * 10 + (c - 48) ≡ c - 48 = omega arith in
    let w : value_after (c - 48) cs ≡ Some n = ap (λ m. value_after m cs) (sym a) ∙ v.1 in
    let b : 48 + (c - 48) ≡ c = omega arith in
    ⊎_elim
    (λ z.
    let s = alone c cs z k.0 in
    let q : value_after (c - 48) [] ≡ Some n = ap (value_after (c - 48)) (sym s) ∙ w in
    let r : c - 48 ≡ n = cc in
    let o : 0 ≡ n = omega arith in
    ap digits (sym o) ∙ ap (λ m. m ∷ []) (sym z) ∙ ap (λ m. c ∷ m) (sym s))
    (λ ne.
    writes_on (c - 48) cs n (omega arith) w ∙ ap (λ r. r ++ cs) (digits_one (c - 48) (omega arith)) ∙ ap (λ m. m ∷ cs) b)
    (cases_eq c 48)

-- from the number to its text

value-digits : (n : ℕ) (ds : List ℕ) → AllBelowBase 10 ds → value_after n (map ascii ds) ≡ Some (number_from_digits_after 10 n ds)
value-digits n [] u = refl
value-digits n (d ∷ ds) u =
    let t : is_digit (48 + d) ≡ true = and_from (leb 48 (48 + d)) (leb (48 + d) 57) (le-leb 48 (48 + d) (omega arith)) (le-leb (48 + d) 57 (omega (arith, u.0))) in
    let a : n * 10 + (48 + d - 48) ≡ n * 10 + d = omega arith in
    cond-true (is_digit (48 + d)) (value_after (n * 10 + (48 + d - 48)) (map ascii ds)) None t ∙ ap (λ m. value_after m (map ascii ds)) a ∙ value-digits (n * 10 + d) ds u.1

natural-digits : (ds : List ℕ) → 0 < get_or ds 0 0 → AllBelowBase 10 ds → natural_of (map ascii ds) ≡ Some (number_from_digits_after 10 0 ds)
natural-digits [] p u = absurd (omega arith)
natural-digits (d ∷ ds) p u =
    let f = and_left (eqb (48 + d) 48) (ltb 0 (length (map ascii ds))) (ne_eqb (48 + d) 48 (λ e. omega arith)) in
    cond-false (eqb (48 + d) 48 && ltb 0 (length (map ascii ds))) None (value_after 0 (map ascii (d ∷ ds))) f ∙ value-digits 0 (d ∷ ds) u

pub writes_natural : (n : ℕ) → natural_of (digits n) ≡ Some n
writes_natural zero = refl
writes_natural (suc n) =
    ap natural_of (digits_positive (suc n) (omega arith)) ∙ natural-digits (digits_of 10 (suc n)) (first_digits_of 10 (suc n) (omega arith) (omega arith)) (all_below_base_digits_of 10 (suc n) (omega arith)) ∙ ap Some (number_digits_of 10 (suc n) (omega arith))

-- integers

first_ascii : (ds : List ℕ) → 0 < length ds → get_or (map ascii ds) 0 0 ≡ 45 → ⊥
first_ascii [] p e = absurd (omega arith)
first_ascii (d ∷ ds) p e = omega arith

no_minus : (n : ℕ) → get_or (digits n) 0 0 ≡ 45 → ⊥
no_minus zero e = omega arith
no_minus (suc n) e = first_ascii (digits_of 10 (suc n)) (some_digits_of (suc n) (omega arith)) (ap (λ r. get_or r 0 0) (sym (digits_positive (suc n) (omega arith))) ∙ e)

no_integer : {P : Type 0} (z : ℤ) → None ≡ Some z → P
no_integer z e = let q : ◌≡◌ {A = ℕ} 0 1 = cc in absurd (omega arith)

plain_some : (o : Option ℕ) (z : ℤ) → plain o ≡ Some z → (n : ℕ) × (o ≡ Some n) × (z ≡ pos n) × (n < 2 ^ 63)
plain_some None z e = no_integer z e
plain_some (Some n) z e =
    ⊎_elim
    (λ l. let q : Some (pos n) ≡ Some z = sym (cond-true (ltb n (2 ^ 63)) (Some (pos n)) None (lt-ltb n (2 ^ 63) l)) ∙ e in (n, refl, cc, l))
    (λ g. no_integer z (sym (cond-false (ltb n (2 ^ 63)) (Some (pos n)) None (le-ltb n (2 ^ 63) g)) ∙ e))
    (cases_lt n (2 ^ 63))

negated_some : (o : Option ℕ) (z : ℤ) → negated o ≡ Some z → (n : ℕ) × (o ≡ Some (suc n)) × (z ≡ negsuc n) × (n < 2 ^ 63)
negated_some None z e = no_integer z e
negated_some (Some zero) z e = no_integer z e
negated_some (Some (suc n)) z e =
    ⊎_elim
    (λ l. let q : Some (negsuc n) ≡ Some z = sym (cond-true (ltb n (2 ^ 63)) (Some (negsuc n)) None (lt-ltb n (2 ^ 63) l)) ∙ e in (n, refl, cc, l))
    (λ g. no_integer z (sym (cond-false (ltb n (2 ^ 63)) (Some (negsuc n)) None (le-ltb n (2 ^ 63) g)) ∙ e))
    (cases_lt n (2 ^ 63))

within_pos : (n : ℕ) → n < 2 ^ 63 → Within (pos n)
within_pos n l = record { low = omega (arith, ints); high = omega (arith, ints) }

within_negsuc : (n : ℕ) → n < 2 ^ 63 → Within (negsuc n)
within_negsuc n l = record { low = omega (arith, ints); high = omega (arith, ints) }

minus_front : (t : List ℕ) → get_or t 0 0 ≡ 45 → 45 ∷ drop 1 t ≡ t
minus_front [] e = absurd (omega arith)
minus_front (c ∷ cs) e = ap (λ m. m ∷ cs) (sym e)

number_writes : (t : List ℕ) (z : ℤ) → number_of t ≡ Some z → Within z × (numeral z ≡ t)
number_writes t z e =
    ⊎_elim
    (λ s.
    let m = negated_some (natural_of (drop 1 t)) z (sym (cond-true (eqb (get_or t 0 0) 45) (negated (natural_of (drop 1 t))) (plain (natural_of t)) s) ∙ e) in (
      subst Within (sym m.2) (within_negsuc m.0 m.3),
      ap numeral m.2 ∙ ap (λ r. 45 ∷ r) (natural_writes (drop 1 t) (suc m.0) m.1) ∙ minus_front t (eqb-true (get_or t 0 0) 45 s),
    ))
    (λ s.
    let p = plain_some (natural_of t) z (sym (cond-false (eqb (get_or t 0 0) 45) (negated (natural_of (drop 1 t))) (plain (natural_of t)) s) ∙ e) in
    (subst Within (sym p.2) (within_pos p.0 p.3), ap numeral p.2 ∙ natural_writes t p.0 p.1))
    (cases_Bool (eqb (get_or t 0 0) 45))

writes_number : (z : ℤ) → Within z → number_of (numeral z) ≡ Some z
writes_number (pos n) w =
    let l : n < 2 ^ 63 = omega (arith, ints, w.high) in
    cond-false (eqb (get_or (digits n) 0 0) 45) (negated (natural_of (drop 1 (digits n)))) (plain (natural_of (digits n))) (ne_eqb (get_or (digits n) 0 0) 45 (no_minus n)) ∙ ap plain (writes_natural n) ∙ cond-true (ltb n (2 ^ 63)) (Some (pos n)) None (lt-ltb n (2 ^ 63) l)
writes_number (negsuc n) w =
    let l : n < 2 ^ 63 = omega (arith, ints, w.low) in
    ap negated (writes_natural (suc n)) ∙ cond-true (ltb n (2 ^ 63)) (Some (negsuc n)) None (lt-ltb n (2 ^ 63) l)

pub numerals_exact : NumeralsExact
numerals_exact t z = (number_writes t z, λ w e. ap number_of (sym e) ∙ writes_number z w)
