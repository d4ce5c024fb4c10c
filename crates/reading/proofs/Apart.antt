-- No two operations have a word in common: one test over all pairs, carried to each.
use Rattle.std.proofs.Common.{◌≡◌, ℕ, zero, suc, ◌+◌, ◌*◌, ◌/◌, ◌%◌, ◌^◌, ◌<◌, Bool, true, false, cond, not, ◌&&◌, ◌||◌, eqb, ltb, List, [], ◌∷◌, length, get_or, Some, None, Option, ℤ, nat_abs, sym, refl, ap, ◌∙◌, subst, ap₂, suc-le-suc, le_of_suc-le-suc, not-suc-le-zero, mod-lt, zero-lt-suc, div-add-mod', arith}
use lib.Arith.{bin_ind}
use lib.Bits.{bit_and, and_shr, and_mod, and_comm}
use Rattle.std.specs.List.{list_all}
use Rattle.std.proofs.lemmas.Bool.{false≢true, and_parts, eqb-true, ltb-true}
use Rattle.std.proofs.lemmas.Bool.Decides.{nat_tests}
use Rattle.bits.specs.declared.part.Field.{Field}
use Rattle.bits.specs.declared.part.Field.TheVariants.{D, A, B, N, M, Opcode, Funct3, Funct}
use Rattle.bits.specs.declared.part.Part.{Part}
use Rattle.bits.specs.declared.part.Part.TheVariants.{Fixed, Slice}
use Rattle.bits.specs.declared.part.Values.{Values}
use Rattle.bits.specs.Layout.{value_at, same, fixed, ones, taken, mask, bits, span}
use Rattle.bits.proofs.Layouts.{under, one}
use Rattle.formats.specs.Layouts.{layout}
use Rattle.operations.specs.declared.row.Except.TheVariants.{Nothing, Zero, ZeroAndTwo}
use Rattle.operations.specs.declared.row.Use.{Use}
use Rattle.operations.specs.declared.row.Use.TheVariants.{Full, Short}
use Rattle.operations.specs.declared.row.Form.{Form}
use Rattle.operations.specs.Manual.{Entry, operations, form_at, no_entry, count}
use Rattle.operations.proofs.Rows.{operations_length}
use Rattle.instructions.specs.declared.fields.Fields.{Fields}
use Rattle.instructions.specs.Faults.{lawful}
use Rattle.instructions.specs.Faults as rules
use Rattle.instructions.specs.Words.{raw_reg, raw, word_of}
use Rattle.instructions.proofs.Checks.{every_at, rule_at}
use Rattle.instructions.proofs.Forms.{Agrees, form_agrees, raw_fits}
use Rattle.instructions.proofs.Sizes.{codes, raw_bits}

by_digits : {a b : ℕ} → a / 2 ≡ b / 2 → a % 2 ≡ b % 2 → a ≡ b
by_digits {a} {b} hi lo = sym (div-add-mod' a 2) ∙ ap₂ (λ (x y : ℕ). x * 2 + y) hi lo ∙ div-add-mod' b 2

not_digit {ℓ} : {A : Type ℓ} {x : ℕ} → suc (suc x) < 2 → A
not_digit h = absurd (not-suc-le-zero (le_of_suc-le-suc (le_of_suc-le-suc h)))

digit_assoc : (x y z : ℕ) → x < 2 → y < 2 → z < 2 → bit_and (bit_and x y) z ≡ bit_and x (bit_and y z)
digit_assoc zero y z hx hy hz = refl
digit_assoc (suc zero) zero z hx hy hz = refl
digit_assoc (suc zero) (suc zero) zero hx hy hz = refl
digit_assoc (suc zero) (suc zero) (suc zero) hx hy hz = refl
digit_assoc (suc zero) (suc zero) (suc (suc z)) hx hy hz = not_digit hz
digit_assoc (suc zero) (suc (suc y)) z hx hy hz = not_digit hy
digit_assoc (suc (suc x)) y z hx hy hz = not_digit hx

two_pos : zero < 2
two_pos = zero-lt-suc 1

and_assoc : (a b c : ℕ) → bit_and (bit_and a b) c ≡ bit_and a (bit_and b c)
and_assoc =
    bin_ind (λ (n : ℕ). (b c : ℕ) → bit_and (bit_and n b) c ≡ bit_and n (bit_and b c)) (λ b c. refl)
    (λ n ih b c. by_digits
    (and_shr (bit_and n b) c 1 ∙ ap (λ (x : ℕ). bit_and x (c / 2)) (and_shr n b 1) ∙ ih (b / 2) (c / 2)
    ∙ sym (and_shr n (bit_and b c) 1 ∙ ap (bit_and (n / 2)) (and_shr b c 1)))
    (and_mod (bit_and n b) c 1 ∙ ap (λ (x : ℕ). bit_and x (c % 2)) (and_mod n b 1)
    ∙ digit_assoc (n % 2) (b % 2) (c % 2) (mod-lt n two_pos) (mod-lt b two_pos) (mod-lt c two_pos)
    ∙ sym (and_mod n (bit_and b c) 1 ∙ ap (bit_and (n % 2)) (and_mod b c 1))))

orb : (b c : Bool) (P : Type 0) → (b ≡ true → P) → (c ≡ true → P) → (b || c) ≡ true → P
orb true c P p q t = p refl
orb false c P p q t = q t

-- the parts of one field
abbrev of : Field → Part → Bool
of g (Fixed w c) = false
of g (Slice f l w) = same f g

-- c at the field f
abbrev put_at : Field → ℕ → Field → ℕ
put_at f c g = cond (same g f) c 0

abbrev only : Field → ℕ → Values
only f c = record {
  d = put_at f c D;
  a = put_at f c A;
  b = put_at f c B;
  n = put_at f c N;
  m = put_at f c M;
  opcode = put_at f c Opcode;
  funct3 = put_at f c Funct3;
  funct = put_at f c Funct;
}

only_at : (f : Field) (c : ℕ) → value_at f (only f c) ≡ c
only_at D c = refl
only_at A c = refl
only_at B c = refl
only_at N c = refl
only_at M c = refl
only_at Opcode c = refl
only_at Funct3 c = refl
only_at Funct c = refl

-- ---- fixed bits

abbrev fixed_tests : Form → Bool
fixed_tests r = eqb r.mask (mask (layout r.kind)) && eqb r.bits (bits (layout r.kind) (codes r))

all_fixed : list_all (λ (e : Entry). fixed_tests e.form) operations ≡ true
unfolding operations
all_fixed = refl

pub in_table : {k : ℕ} → k < count → k < length operations
in_table {k} h = subst (λ (n : ℕ). k < n) (sym operations_length) h

pub record Fixes (r : Form) : Type 0 where
  pub mask_is : r.mask ≡ mask (layout r.kind)
  pub bits_is : r.bits ≡ bits (layout r.kind) (codes r)

pub form_fixes : (k : ℕ) → k < count → Fixes (form_at k)
form_fixes k h =
    let r = form_at k in
    let z = and_parts (eqb r.mask (mask (layout r.kind))) (eqb r.bits (bits (layout r.kind) (codes r))) (every_at (λ (e : Entry). fixed_tests e.form) operations no_entry all_fixed k (in_table h)) in
    record { mask_is = eqb-true r.mask (mask (layout r.kind)) z.0; bits_is = eqb-true r.bits (bits (layout r.kind) (codes r)) z.1 }

-- an instruction's word has its operation's fixed bits
pub has_bits : (r : Form) (f : Fields) → Fixes r → bit_and (word_of r f) r.mask ≡ r.bits
has_bits r f x =
    ap (bit_and (word_of r f)) x.mask_is ∙ under fixed (layout r.kind) (raw r f) ∙ raw_bits r f ∙ sym x.bits_is

-- ---- two operations that fixed bits do not tell apart: one never has what the other fixes

-- b fixes the field f of a to c
abbrev settles : Form → Form → Field → ℕ → Bool
settles a b f c =
    ltb c (2 ^ span (layout a.kind) f)
    && (eqb (bit_and b.mask (ones (of f) (layout a.kind))) (ones (of f) (layout a.kind))
    && eqb (bit_and b.bits (ones (of f) (layout a.kind))) (taken (of f) (layout a.kind) (only f c)))

abbrev no_zero : Option Use → Bool
no_zero None = false
no_zero (Some (Full c Nothing)) = false
no_zero (Some (Full c Zero)) = true
no_zero (Some (Full c ZeroAndTwo)) = true
no_zero (Some (Short c)) = false

abbrev no_two : Option Use → Bool
no_two None = false
no_two (Some (Full c Nothing)) = false
no_two (Some (Full c Zero)) = false
no_two (Some (Full c ZeroAndTwo)) = true
no_two (Some (Short c)) = false

abbrev voided : Form → Form → Bool
voided a b = (no_zero a.b && settles a b B 0) || ((no_zero a.a && settles a b A 0) || (no_two a.d && settles a b D 2))

abbrev pub differ : Form → Form → Bool
differ a b = not (eqb (bit_and a.bits b.mask) (bit_and b.bits a.mask)) || (voided a b || voided b a)

-- the same field is itself
self : (f : Field) → same f f ≡ true
self f = grind (arith, nat_tests)

settled : (a b : Form) (f : Field) (c w : ℕ) (x : Fields) → Agrees a → lawful a x ≡ true → word_of a x ≡ w → bit_and w b.mask ≡ b.bits → settles a b f c ≡ true → value_at f (raw a x) ≡ c
settled a b f c w x g o e h t =
    let s = layout a.kind in
    let t1 = and_parts (ltb c (2 ^ span s f)) _ t in
    let t2 = and_parts (eqb (bit_and b.mask (ones (of f) s)) (ones (of f) s)) (eqb (bit_and b.bits (ones (of f) s)) (taken (of f) s (only f c))) t1.1 in
    let m = eqb-true (bit_and b.mask (ones (of f) s)) (ones (of f) s) t2.0 in
    let n = eqb-true (bit_and b.bits (ones (of f) s)) (taken (of f) s (only f c)) t2.1 in
    one (of f) (raw a x) (only f c) f (λ l k. self f) s
    (sym (under (of f) s (raw a x)) ∙ ap (λ y. bit_and y (ones (of f) s)) e ∙ ap (bit_and w) (sym m) ∙ sym (and_assoc w b.mask (ones (of f) s)) ∙ ap (λ y. bit_and y (ones (of f) s)) h ∙ n)
    (raw_fits a x g o f) (subst (λ y. y < 2 ^ span s f) (sym (only_at f c)) (ltb-true c (2 ^ span s f) t1.0))
    ∙ only_at f c

clash_of : (x c : ℕ) → not (eqb x c) ≡ true → x ≡ c → ⊥
clash_of x c t e = grind (arith, nat_tests)

not_zero : (u : Option Use) (x : ℤ) → no_zero u ≡ true → rules.taken u x ≡ true → raw_reg u x ≡ 0 → ⊥
not_zero None x n t e = false≢true n
not_zero (Some (Full c Nothing)) x n t e = false≢true n
not_zero (Some (Full c Zero)) x n t e = clash_of (nat_abs x) 0 t e
not_zero (Some (Full c ZeroAndTwo)) x n t e = clash_of (nat_abs x) 0 (and_parts (not (eqb (nat_abs x) 0)) (not (eqb (nat_abs x) 2)) t).0 e
not_zero (Some (Short c)) x n t e = false≢true n

not_two : (u : Option Use) (x : ℤ) → no_two u ≡ true → rules.taken u x ≡ true → raw_reg u x ≡ 2 → ⊥
not_two None x n t e = false≢true n
not_two (Some (Full c Nothing)) x n t e = false≢true n
not_two (Some (Full c Zero)) x n t e = false≢true n
not_two (Some (Full c ZeroAndTwo)) x n t e = clash_of (nat_abs x) 2 (and_parts (not (eqb (nat_abs x) 0)) (not (eqb (nat_abs x) 2)) t).1 e
not_two (Some (Short c)) x n t e = false≢true n

voided_not : (a b : Form) (w : ℕ) (x : Fields) → Agrees a → lawful a x ≡ true → word_of a x ≡ w → bit_and w b.mask ≡ b.bits → voided a b ≡ true → ⊥
voided_not a b w x g o e h t =
    let ok = rule_at a x o in
    orb (no_zero a.b && settles a b B 0) _ ⊥
    (λ t. let u = and_parts (no_zero a.b) (settles a b B 0) t in not_zero a.b x.b u.0 (ok 2) (settled a b B 0 w x g o e h u.1))
    (orb (no_zero a.a && settles a b A 0) _ ⊥
    (λ t. let u = and_parts (no_zero a.a) (settles a b A 0) t in not_zero a.a x.a u.0 (ok 1) (settled a b A 0 w x g o e h u.1))
    (λ t. let u = and_parts (no_two a.d) (settles a b D 2) t in not_two a.d x.d u.0 (ok 0) (settled a b D 2 w x g o e h u.1)))
    t

meet : (a b : Form) (w : ℕ) → bit_and w a.mask ≡ a.bits → bit_and w b.mask ≡ b.bits → bit_and a.bits b.mask ≡ bit_and b.bits a.mask
meet a b w ha hb =
    ap (λ (x : ℕ). bit_and x b.mask) (sym ha) ∙ and_assoc w a.mask b.mask
    ∙ ap (bit_and w) (and_comm a.mask b.mask) ∙ sym (and_assoc w b.mask a.mask)
    ∙ ap (λ (x : ℕ). bit_and x a.mask) hb

clash : (a b : Form) (x y : Fields) → Agrees a → Agrees b → Fixes a → Fixes b → lawful a x ≡ true → lawful b y ≡ true → word_of a x ≡ word_of b y → differ a b ≡ true → ⊥
clash a b x y ga gb fa fb oa ob e t =
    let w = word_of b y in
    let ha : bit_and w a.mask ≡ a.bits = ap (λ z. bit_and z a.mask) (sym e) ∙ has_bits a x fa in
    let hb = has_bits b y fb in
    orb (not (eqb (bit_and a.bits b.mask) (bit_and b.bits a.mask))) (voided a b || voided b a) ⊥
    (λ t. clash_of (bit_and a.bits b.mask) (bit_and b.bits a.mask) t (meet a b w ha hb))
    (orb (voided a b) (voided b a) ⊥ (voided_not a b w x ga oa e hb) (voided_not b a w y gb ob refl ha))
    t

-- ---- all pairs

abbrev pairwise : {A : Type 0} → (A → A → Bool) → List A → Bool
pairwise f [] = true
pairwise f (x ∷ xs) = list_all (f x) xs && pairwise f xs

pairwise_at : {A : Type 0} (f : A → A → Bool) (xs : List A) (d : A) → pairwise f xs ≡ true → (i j : ℕ) → i < j → j < length xs → f (get_or xs i d) (get_or xs j d) ≡ true
pairwise_at f [] d t i j hij hj = absurd (not-suc-le-zero hj)
pairwise_at f (x ∷ xs) d t zero zero hij hj = absurd (not-suc-le-zero hij)
pairwise_at f (x ∷ xs) d t (suc i) zero hij hj = absurd (not-suc-le-zero hij)
pairwise_at f (x ∷ xs) d t zero (suc j) hij hj = every_at (f x) xs d (and_parts (list_all (f x) xs) (pairwise f xs) t).0 j (le_of_suc-le-suc hj)
pairwise_at f (x ∷ xs) d t (suc i) (suc j) hij hj = pairwise_at f xs d (and_parts (list_all (f x) xs) (pairwise f xs) t).1 i j (le_of_suc-le-suc hij) (le_of_suc-le-suc hj)

abbrev forms_differ : Entry → Entry → Bool
forms_differ a b = differ a.form b.form

all_differ : pairwise forms_differ operations ≡ true
unfolding operations
all_differ = refl

data Order (i j : ℕ) : Type 0 where
  before : i < j → Order i j
  alike : i ≡ j → Order i j
  after : j < i → Order i j

order_suc : {i j : ℕ} → Order i j → Order (suc i) (suc j)
order_suc (before h) = before (suc-le-suc h)
order_suc (alike e) = alike (ap suc e)
order_suc (after h) = after (suc-le-suc h)

order : (i j : ℕ) → Order i j
order zero zero = alike refl
order zero (suc j) = before (zero-lt-suc j)
order (suc i) zero = after (zero-lt-suc i)
order (suc i) (suc j) = order_suc (order i j)

-- one word, one operation
pub unconfused : (i j : ℕ) (f g : Fields) → i < count → j < count → lawful (form_at i) f ≡ true → lawful (form_at j) g ≡ true → word_of (form_at i) f ≡ word_of (form_at j) g → i ≡ j
unconfused i j f g hi hj og oh e = by (order i j)
  where
    by : Order i j → i ≡ j
    by (before h) = absurd (clash (form_at i) (form_at j) f g (form_agrees i hi) (form_agrees j hj) (form_fixes i hi) (form_fixes j hj) og oh e (pairwise_at forms_differ operations no_entry all_differ i j h (in_table hj)))
    by (alike p) = p
    by (after h) = absurd (clash (form_at j) (form_at i) g f (form_agrees j hj) (form_agrees i hi) (form_fixes j hj) (form_fixes i hi) oh og (sym e) (pairwise_at forms_differ operations no_entry all_differ j i h (in_table hi)))
