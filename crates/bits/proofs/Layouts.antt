-- One word, one set of fields, and back: for every layout. Assumes nothing.
use Rattle.std.proofs.Common.{◌≡◌, ℕ, zero, suc, ◌+◌, ◌-◌, ◌*◌, ◌/◌, ◌%◌, ◌^◌, ◌<◌, ◌≤◌, Bool, true, false, cond, ◌&&◌, ◌||◌, eqb, leb, List, [], ◌∷◌, length, sym, refl, ap, ◌∙◌, subst, ap₂, subst₂, lt_of_lt_of_le, mod-lt, mod-eq_of_lt, mul_assoc, div-add-mod', arith, pow_pos, pow_mono, pow-add, shl_lt, shr_lt, ⊎_elim}
use native.Mathlib.Nat.{mod-one, zero-mod, zero-div, mul-mod_left, div-eq_of_lt}
use lib.Arith.{digits_div, digits_mod, digits_lt}
use lib.Bits.{bit_and, bit_or, and_block, and_mask, and_lt, and_zero_r, or_shr, or_mod, or_zero_r, or_lt}
use lib.Pow.{high, low, mod-pow-add, shl-shr, ones_lt}
use Rattle.std.proofs.lemmas.Bool.{and_parts, cases_Bool, eqb-true}
use Rattle.std.proofs.lemmas.Bool.Decides.{nat_tests}
use Rattle.bits.specs.declared.part.Field.{Field}
use Rattle.bits.specs.declared.part.Field.TheVariants.{D, A, B, N, M, Opcode, Funct3, Funct}
use Rattle.bits.specs.declared.part.Values.{Values}
use Rattle.bits.specs.declared.part.Part.{Part}
use Rattle.bits.specs.declared.part.Part.TheVariants.{Fixed, Slice}
use Rattle.bits.specs.Layout.{value_at, index, same, code, width, value, total, ones, taken, any, fixed, word, mask, bits, bits_in, pick, apart, from, reach, span, tidy, sound, Fit, picks}

pub value_lt : (p : Part) (v : Values) → value p v < 2 ^ width p
value_lt (Fixed w c) v = mod-lt c (pow_pos w)
value_lt (Slice f l w) v = mod-lt (value_at f v / 2 ^ l) (pow_pos w)

cond_lt : (b : Bool) (x w : ℕ) → x < 2 ^ w → cond b x 0 < 2 ^ w
cond_lt true x w h = h
cond_lt false x w h = pow_pos w

part_and : (b : Bool) (v w : ℕ) → v < 2 ^ w → bit_and v (cond b (2 ^ w - 1) 0) ≡ cond b v 0
part_and true v w h = and_mask v w ∙ mod-eq_of_lt h
part_and false v w h = and_zero_r v

-- the word under the ones of q
pub under : (q : Part → Bool) (s : List Part) (v : Values) → bit_and (word s v) (ones q s) ≡ taken q s v
under q [] v = refl
under q (p ∷ s) v =
    and_block (width p) (word s v) (ones q s) (value p v) (cond (q p) (2 ^ width p - 1) 0) (value_lt p v) (cond_lt (q p) (2 ^ width p - 1) (width p) (ones_lt (width p)))
    ∙ ap₂ (λ (x y : ℕ). x * 2 ^ width p + y) (under q s v) (part_and (q p) (value p v) (width p) (value_lt p v))

pub word_lt : (s : List Part) (v : Values) → word s v < 2 ^ total s
word_lt [] v = pow_pos 0
word_lt (p ∷ s) v =
    subst (λ n. word s v * 2 ^ width p + value p v < n) (sym (pow-add 2 (total s) (width p))) (digits_lt (word_lt s v) (value_lt p v))

-- ---- equal at the parts that q takes: equal there, part by part
abbrev Alike : (Part → Bool) → List Part → Values → Values → Type 0
Alike q [] v u = Unit {0}
Alike q (p ∷ s) v u = (q p ≡ true → value p v ≡ value p u) × Alike q s v u

alike : (q : Part → Bool) (s : List Part) (v u : Values) → taken q s v ≡ taken q s u → Alike q s v u
alike q [] v u e = tt
alike q (p ∷ s) v u e =
    let hv = cond_lt (q p) (value p v) (width p) (value_lt p v) in
    let hu = cond_lt (q p) (value p u) (width p) (value_lt p u) in (
      (λ t. subst (λ b. cond b (value p v) 0 ≡ cond b (value p u) 0) t (sym (low (taken q s v) (width p) hv) ∙ ap (λ x. x % 2 ^ width p) e ∙ low (taken q s u) (width p) hu)),
      alike q s v u (sym (high (taken q s v) (width p) hv) ∙ ap (λ x. x / 2 ^ width p) e ∙ high (taken q s u) (width p) hu),
    )

pub by_cond : (P : ℕ → Type 0) (b : Bool) (x y : ℕ) → (b ≡ true → P x) → P y → P (cond b x y)
by_cond P true x y p q = p refl
by_cond P false x y p q = q

numbered : ℕ → Field
numbered zero = D
numbered (suc zero) = A
numbered (suc (suc zero)) = B
numbered (suc (suc (suc zero))) = N
numbered (suc (suc (suc (suc zero)))) = M
numbered (suc (suc (suc (suc (suc zero))))) = Opcode
numbered (suc (suc (suc (suc (suc (suc zero)))))) = Funct3
numbered (suc (suc (suc (suc (suc (suc (suc n))))))) = Funct

numbered-index : (f : Field) → numbered (index f) ≡ f
unfolding numbered
numbered-index D = refl
numbered-index A = refl
numbered-index B = refl
numbered-index N = refl
numbered-index M = refl
numbered-index Opcode = refl
numbered-index Funct3 = refl
numbered-index Funct = refl

pub same_is : (f g : Field) → same f g ≡ true → f ≡ g
same_is f g t = sym (numbered-index f) ∙ ap numbered (eqb-true (index f) (index g) t) ∙ numbered-index g

both : (g f : Field) (l a : ℕ) → (same g f && eqb l a) ≡ true → (g ≡ f) × (l ≡ a)
both g f l a t = let z = and_parts (same g f) (eqb l a) t in (same_is g f z.0, eqb-true l a z.1)

module _ (q : Part → Bool) (v u : Values) (f : Field) (all : (l w : ℕ) → q (Slice f l w) ≡ true) where
  piece : (s : List Part) (a : ℕ) → Alike q s v u → value_at f v / 2 ^ a % 2 ^ from s f a ≡ value_at f u / 2 ^ a % 2 ^ from s f a
  piece [] a h = mod-one _ ∙ sym (mod-one _)
  piece (Fixed w c ∷ s) a h = piece s a h.1
  piece (Slice g l w ∷ s) a h =
      by_cond (λ n. value_at f v / 2 ^ a % 2 ^ n ≡ value_at f u / 2 ^ a % 2 ^ n) (same g f && eqb l a) w (from s f a)
      (λ t. let e = both g f l a t in
      let k : q (Slice g l w) ≡ true = subst (λ x. q (Slice x l w) ≡ true) (sym e.0) (all l w) in
      subst₂ (λ x y. value_at x v / 2 ^ y % 2 ^ w ≡ value_at x u / 2 ^ y % 2 ^ w) e.0 e.1 (h.0 k))
      (piece s a h.1)

  further : (n : ℕ) (s : List Part) (a : ℕ) → Alike q s v u → value_at f v % 2 ^ a ≡ value_at f u % 2 ^ a → value_at f v % 2 ^ reach n s f a ≡ value_at f u % 2 ^ reach n s f a
  further zero s a h e = e
  further (suc n) s a h e =
      further n s (from s f a + a) h
      (mod-pow-add (value_at f v) (from s f a) a ∙ ap₂ (λ x y. x * 2 ^ a + y) (piece s a h) e ∙ sym (mod-pow-add (value_at f u) (from s f a) a))

  -- a field that q takes is known by the parts that q takes
  pub one : (s : List Part) → taken q s v ≡ taken q s u → value_at f v < 2 ^ span s f → value_at f u < 2 ^ span s f → value_at f v ≡ value_at f u
  one s e hv hu =
      sym (mod-eq_of_lt hv) ∙ further (length s) s 0 (alike q s v u e) (mod-one _ ∙ sym (mod-one _)) ∙ mod-eq_of_lt hu

-- ---- reading

-- a number that lies elsewhere shows nothing here
far : (x w k l v : ℕ) → x < 2 ^ w → (k + w ≤ l) → x * 2 ^ k / 2 ^ l % 2 ^ v ≡ 0
far x w k l v h le = ap (λ y. y % 2 ^ v) (div-eq_of_lt (lt_of_lt_of_le (shl_lt w k h) (pow_mono (omega arith)))) ∙ zero-mod (2 ^ v)

past : (x k l v : ℕ) → (l + v ≤ k) → x * 2 ^ k / 2 ^ l % 2 ^ v ≡ 0
past x k l v le =
    let j : ℕ = k - (l + v) in
    let e : k ≡ (j + v) + l = omega arith in
    ap (λ y. x * 2 ^ y / 2 ^ l % 2 ^ v) e
    ∙ ap (λ y. x * y / 2 ^ l % 2 ^ v) (pow-add 2 (j + v) l)
    ∙ ap (λ y. y / 2 ^ l % 2 ^ v) (sym (mul_assoc x (2 ^ (j + v)) (2 ^ l)))
    ∙ ap (λ y. y % 2 ^ v) (shl-shr (x * 2 ^ (j + v)) l)
    ∙ ap (λ y. x * y % 2 ^ v) (pow-add 2 j v)
    ∙ ap (λ y. y % 2 ^ v) (sym (mul_assoc x (2 ^ j) (2 ^ v)))
    ∙ mul-mod_left (x * 2 ^ j) (2 ^ v)

elsewhere : (x w k l v : ℕ) → x < 2 ^ w → (leb (k + w) l || leb (l + v) k) ≡ true → x * 2 ^ k / 2 ^ l % 2 ^ v ≡ 0
elsewhere x w k l v h t = go (leb (k + w) l) refl t
  where
    go : (b : Bool) → leb (k + w) l ≡ b → (b || leb (l + v) k) ≡ true → x * 2 ^ k / 2 ^ l % 2 ^ v ≡ 0
    go true e t = far x w k l v h (grind (arith, nat_tests))
    go false e t = past x k l v (grind (arith, nat_tests))

or_at : (a b l w : ℕ) → bit_or a b / 2 ^ l % 2 ^ w ≡ bit_or (a / 2 ^ l % 2 ^ w) (b / 2 ^ l % 2 ^ w)
or_at a b l w = ap (λ x. x % 2 ^ w) (or_shr a b l) ∙ or_mod (a / 2 ^ l) (b / 2 ^ l) w

nothing : (l w : ℕ) → 0 / 2 ^ l % 2 ^ w ≡ 0
nothing l w = ap (λ x. x % 2 ^ w) (zero-div (2 ^ l)) ∙ zero-mod (2 ^ w)

quiet : (f : Field) (p : Part) (l w x : ℕ) → apart (p ∷ []) f l w ≡ true → bits_in f p x / 2 ^ l % 2 ^ w ≡ 0
quiet f (Fixed v c) l w x t = nothing l w
quiet f (Slice g k v) l w x t = go (same g f) (and_parts _ _ t).0
  where
    go : (b : Bool) → cond b (leb (k + v) l || leb (l + w) k) true ≡ true → cond b (x % 2 ^ v * 2 ^ k) 0 / 2 ^ l % 2 ^ w ≡ 0
    go true t = elsewhere (x % 2 ^ v) v k l w (mod-lt x (pow_pos v)) t
    go false t = nothing l w

apart_head : (p : Part) (s : List Part) (f : Field) (l w : ℕ) → apart (p ∷ s) f l w ≡ true → (apart (p ∷ []) f l w ≡ true) × (apart s f l w ≡ true)
apart_head (Fixed v c) s f l w t = (refl, t)
apart_head (Slice g k v) s f l w t = let z = and_parts (cond (same g f) (leb (k + v) l || leb (l + w) k) true) (apart s f l w) t in (ap (λ b. b && true) z.0, z.1)

or_quiet : (a b l w : ℕ) → b / 2 ^ l % 2 ^ w ≡ 0 → bit_or a b / 2 ^ l % 2 ^ w ≡ a / 2 ^ l % 2 ^ w
or_quiet a b l w e = or_at a b l w ∙ ap (bit_or (a / 2 ^ l % 2 ^ w)) e ∙ or_zero_r (a / 2 ^ l % 2 ^ w)

-- what is picked later leaves what lies apart
kept : (s : List Part) (a : ℕ) (f : Field) (l w x : ℕ) → apart s f l w ≡ true → pick a s f x / 2 ^ l % 2 ^ w ≡ a / 2 ^ l % 2 ^ w
kept [] a f l w x t = refl
kept (p ∷ s) a f l w x t =
    let z = apart_head p s f l w t in
    kept s (bit_or a (bits_in f p x)) f l w (x / 2 ^ width p) z.1 ∙ or_quiet a (bits_in f p x) l w (quiet f p l w x z.0)

-- each slice of the fields y stands in x
abbrev pub Stands : List Part → (Field → ℕ) → ℕ → Type 0
Stands [] y x = Unit {0}
Stands (Fixed w c ∷ s) y x = Stands s y (x / 2 ^ w)
Stands (Slice f l w ∷ s) y x = (y f / 2 ^ l % 2 ^ w ≡ x % 2 ^ w) × Stands s y (x / 2 ^ w)

abbrev Clear : List Part → (Field → ℕ) → Type 0
Clear [] a = Unit {0}
Clear (Fixed w c ∷ s) a = Clear s a
Clear (Slice f l w ∷ s) a = (a f / 2 ^ l % 2 ^ w ≡ 0) × Clear s a

self : (f : Field) (l w x a : ℕ) → a / 2 ^ l % 2 ^ w ≡ 0 → bit_or a (cond (same f f) (x % 2 ^ w * 2 ^ l) 0) / 2 ^ l % 2 ^ w ≡ x % 2 ^ w
self f l w x a e =
    let t : same f f ≡ true = grind (arith, nat_tests) in
    ap (λ b. bit_or a (cond b (x % 2 ^ w * 2 ^ l) 0) / 2 ^ l % 2 ^ w) t
    ∙ or_at a (x % 2 ^ w * 2 ^ l) l w
    ∙ ap₂ bit_or e (ap (λ y. y % 2 ^ w) (shl-shr (x % 2 ^ w) l) ∙ mod-eq_of_lt (mod-lt x (pow_pos w)))

-- the part p, picked, leaves the later parts clear
clears : (s : List Part) (a : Field → ℕ) (g : Field) (k v x : ℕ) → apart s g k v ≡ true → Clear s a → Clear s (λ f. bit_or (a f) (bits_in f (Slice g k v) x))
clears [] a g k v x t c = tt
clears (Fixed w n ∷ s) a g k v x t c = clears s a g k v x t c
clears (Slice f l w ∷ s) a g k v x t c =
    let z = and_parts (cond (same f g) (leb (l + w) k || leb (k + v) l) true) (apart s g k v) t in
    (or_quiet (a f) (bits_in f (Slice g k v) x) l w (turn (same f g) refl z.0) ∙ c.0, clears s a g k v x z.1 c.1)
  where
    swap : (b c : Bool) → (b || c) ≡ true → (c || b) ≡ true
    swap true true t = refl
    swap true false t = refl
    swap false true t = refl
    swap false false t = t

    turn : (b : Bool) → same f g ≡ b → cond b (leb (l + w) k || leb (k + v) l) true ≡ true → cond (same g f) (x % 2 ^ v * 2 ^ k) 0 / 2 ^ l % 2 ^ w ≡ 0
    turn true e t = by_cond (λ n. n / 2 ^ l % 2 ^ w ≡ 0) (same g f) (x % 2 ^ v * 2 ^ k) 0 (λ i. elsewhere (x % 2 ^ v) v k l w (mod-lt x (pow_pos v)) (swap (leb (l + w) k) (leb (k + v) l) t)) (nothing l w)
    turn false e t = let i : same g f ≡ false = grind (arith, nat_tests) in ap (λ b. cond b (x % 2 ^ v * 2 ^ k) 0 / 2 ^ l % 2 ^ w) i ∙ nothing l w

clear_fixed : (s : List Part) (a : Field → ℕ) (w c x : ℕ) → Clear s a → Clear s (λ f. bit_or (a f) 0)
clear_fixed [] a w c x h = tt
clear_fixed (Fixed v n ∷ s) a w c x h = clear_fixed s a w c x h
clear_fixed (Slice f l v ∷ s) a w c x h = (or_quiet (a f) 0 l v (nothing l v) ∙ h.0, clear_fixed s a w c x h.1)

pub stands : (t s : List Part) (a : Field → ℕ) (x : ℕ) → tidy t s ≡ true → Clear s a → Stands s (λ f. pick (a f) s f x) x
stands t [] a x h c = tt
stands t (Fixed w n ∷ s) a x h c = stands t s (λ f. bit_or (a f) 0) (x / 2 ^ w) h (clear_fixed s a w n x c)
stands t (Slice f l w ∷ s) a x h c =
    let z = and_parts (leb (w + l) (span t f)) (apart s f l w && tidy t s) h in
    let o = and_parts (apart s f l w) (tidy t s) z.1 in (
      kept s (bit_or (a f) (bits_in f (Slice f l w) x)) f l w (x / 2 ^ w) o.0 ∙ self f l w x (a f) c.0,
      stands t s (λ g. bit_or (a g) (bits_in g (Slice f l w) x)) (x / 2 ^ w) o.1 (clears s a f l w x o.0 c.1),
    )

clear_none : (s : List Part) → Clear s (λ f. 0)
clear_none [] = tt
clear_none (Fixed w c ∷ s) = clear_none s
clear_none (Slice f l w ∷ s) = (nothing l w, clear_none s)

-- each slice of the fields that are picked from x stands in x
pub picked : (s : List Part) (x : ℕ) → sound s ≡ true → Stands s (λ f. pick 0 s f x) x
picked s x h = stands s s (λ f. 0) x h (clear_none s)

-- and they are no wider than the layout has them
picks_lt : (t s : List Part) (a : ℕ) (f : Field) (x : ℕ) → tidy t s ≡ true → a < 2 ^ span t f → pick a s f x < 2 ^ span t f
picks_lt t [] a f x h l = l
picks_lt t (Fixed w c ∷ s) a f x h l = picks_lt t s (bit_or a 0) f (x / 2 ^ w) h (or_lt (span t f) a 0 l (pow_pos (span t f)))
picks_lt t (Slice g k w ∷ s) a f x h l =
    let z = and_parts (leb (w + k) (span t g)) (apart s g k w && tidy t s) h in
    let o = and_parts (apart s g k w) (tidy t s) z.1 in
    picks_lt t s (bit_or a (bits_in f (Slice g k w) x)) f (x / 2 ^ w) o.1
    (or_lt (span t f) a (bits_in f (Slice g k w) x) l
    (by_cond (λ n. n < 2 ^ span t f) (same g f) (x % 2 ^ w * 2 ^ k) 0
    (λ e. lt_of_lt_of_le (shl_lt w k (mod-lt x (pow_pos w))) (pow_mono (subst (λ n. w + k ≤ span t n) (same_is g f e) (below z.0))))
    (pow_pos (span t f))))
  where
    below : leb (w + k) (span t g) ≡ true → w + k ≤ span t g
    below e = grind (arith, nat_tests)

pub picked_lt : (s : List Part) (f : Field) (x : ℕ) → sound s ≡ true → pick 0 s f x < 2 ^ span s f
picked_lt s f x h = picks_lt s s 0 f x h (pow_pos (span s f))

fix_low : (b : Bool) (r w v : ℕ) → r < 2 ^ w → bit_and r (cond b (2 ^ w - 1) 0) ≡ cond b v 0 → b ≡ true → v ≡ r
fix_low true r w v h e t = sym e ∙ and_mask r w ∙ mod-eq_of_lt h
fix_low false r w v h e t = grind (arith, t)

lowest : (s : List Part) (u : Values) (y : Field → ℕ) (x : ℕ) (p : Part) → Stands (p ∷ s) y x → ((f : Field) → code f ≡ false → y f ≡ value_at f u) → bit_and (x % 2 ^ width p) (cond (fixed p) (2 ^ width p - 1) 0) ≡ cond (fixed p) (value p u) 0 → value p u ≡ x % 2 ^ width p
lowest s u y x (Fixed w c) t a e = fix_low true (x % 2 ^ w) w (c % 2 ^ w) (mod-lt x (pow_pos w)) e refl
lowest s u y x (Slice f l w) t a e =
    ⊎_elim (fix_low (code f) (x % 2 ^ w) w (value_at f u / 2 ^ l % 2 ^ w) (mod-lt x (pow_pos w)) e)
    (λ n. ap (λ m. m / 2 ^ l % 2 ^ w) (sym (a f n)) ∙ t.0)
    (cases_Bool (code f))

-- a word with the fixed bits of the codes in u, and whose other fields are those of u, is u's word
pub joins : (s : List Part) (u : Values) (y : Field → ℕ) (x : ℕ) → x < 2 ^ total s → bit_and x (mask s) ≡ bits s u → Stands s y x → ((f : Field) → code f ≡ false → y f ≡ value_at f u) → word s u ≡ x
joins [] u y x lt e t a = omega (arith, lt)
joins (p ∷ s) u y x lt e t a =
    ap₂ (λ (m n : ℕ). m * 2 ^ width p + n) (joins s u y (x / 2 ^ width p) (shr_lt (total s) (width p) lt) hi (rest p t) a) (lowest s u y x p t a lo)
    ∙ div-add-mod' x (2 ^ width p)
  where
    k : ℕ
    k = width p

    hr : x % 2 ^ width p < 2 ^ width p
    hr = mod-lt x (pow_pos (width p))

    hm : cond (fixed p) (2 ^ width p - 1) 0 < 2 ^ width p
    hm = cond_lt (fixed p) (2 ^ width p - 1) (width p) (ones_lt (width p))

    hv : cond (fixed p) (value p u) 0 < 2 ^ width p
    hv = cond_lt (fixed p) (value p u) (width p) (value_lt p u)

    both' : bit_and (x / 2 ^ width p) (mask s) * 2 ^ width p + bit_and (x % 2 ^ width p) (cond (fixed p) (2 ^ width p - 1) 0) ≡ bits s u * 2 ^ width p + cond (fixed p) (value p u) 0
    both' = sym (and_block (width p) (x / 2 ^ width p) (mask s) (x % 2 ^ width p) (cond (fixed p) (2 ^ width p - 1) 0) hr hm)
        ∙ ap (λ (n : ℕ). bit_and n (mask s * 2 ^ width p + cond (fixed p) (2 ^ width p - 1) 0)) (div-add-mod' x (2 ^ width p)) ∙ e

    hl : bit_and (x % 2 ^ width p) (cond (fixed p) (2 ^ width p - 1) 0) < 2 ^ width p
    hl = and_lt (width p) (x % 2 ^ width p) (cond (fixed p) (2 ^ width p - 1) 0) hr hm

    lo : bit_and (x % 2 ^ width p) (cond (fixed p) (2 ^ width p - 1) 0) ≡ cond (fixed p) (value p u) 0
    lo = sym (digits_mod (bit_and (x / 2 ^ width p) (mask s)) hl) ∙ ap (λ (n : ℕ). n % 2 ^ width p) both' ∙ digits_mod (bits s u) hv

    hi : bit_and (x / 2 ^ width p) (mask s) ≡ bits s u
    hi = sym (digits_div (bit_and (x / 2 ^ width p) (mask s)) hl) ∙ ap (λ (n : ℕ). n / 2 ^ width p) both' ∙ digits_div (bits s u) hv

    rest : (p : Part) → Stands (p ∷ s) y x → Stands s y (x / 2 ^ width p)
    rest (Fixed w c) t = t
    rest (Slice f l w) t = t.1

-- ---- the fields together

pub picks_at : (s : List Part) (x : ℕ) (f : Field) → value_at f (picks s x) ≡ pick 0 s f x
picks_at s x D = refl
picks_at s x A = refl
picks_at s x B = refl
picks_at s x N = refl
picks_at s x M = refl
picks_at s x Opcode = refl
picks_at s x Funct3 = refl
picks_at s x Funct = refl

pub picks_fit : (s : List Part) (x : ℕ) → sound s ≡ true → Fit s (picks s x)
picks_fit s x h f = subst (λ n. n < 2 ^ span s f) (sym (picks_at s x f)) (picked_lt s f x h)

-- if x is the word of any fields, it is the word of those that are picked from it
again : (s : List Part) (v u : Values) (y : Field → ℕ) (x : ℕ) → ((f : Field) → value_at f u ≡ y f) → word s v ≡ x → Stands s y x → word s u ≡ x
again [] v u y x a e t = e
again (p ∷ s) v u y x a e t =
    let lo : value p v ≡ x % 2 ^ width p = sym (digits_mod (word s v) (value_lt p v)) ∙ ap (λ n. n % 2 ^ width p) e in
    let hi : word s v ≡ x / 2 ^ width p = sym (digits_div (word s v) (value_lt p v)) ∙ ap (λ n. n / 2 ^ width p) e in
    ap₂ (λ (m n : ℕ). m * 2 ^ width p + n) (again s v u y (x / 2 ^ width p) a hi (rest p t)) (at p lo t) ∙ div-add-mod' x (2 ^ width p)
  where
    rest : (p : Part) → Stands (p ∷ s) y x → Stands s y (x / 2 ^ width p)
    rest (Fixed w c) t = t
    rest (Slice f l w) t = t.1

    at : (p : Part) → value p v ≡ x % 2 ^ width p → Stands (p ∷ s) y x → value p u ≡ x % 2 ^ width p
    at (Fixed w c) e t = e
    at (Slice f l w) e t = ap (λ n. n / 2 ^ l % 2 ^ w) (a f) ∙ t.0

pub picks-word : (s : List Part) (v : Values) (x : ℕ) → sound s ≡ true → word s v ≡ x → word s (picks s x) ≡ x
picks-word s v x h e = again s v (picks s x) (λ f. pick 0 s f x) x (picks_at s x) e (picked s x h)

-- fields that agree one by one are equal
pub values_same : (v u : Values) → ((f : Field) → value_at f v ≡ value_at f u) → v ≡ u
values_same v u h = λ i. record {
  d = h D i;
  a = h A i;
  b = h B i;
  n = h N i;
  m = h M i;
  opcode = h Opcode i;
  funct3 = h Funct3 i;
  funct = h Funct i;
}

-- and the only ones that fit
pub picks_only : (s : List Part) (v : Values) (x : ℕ) → sound s ≡ true → Fit s v → word s v ≡ x → picks s x ≡ v
picks_only s v x h l e =
    values_same (picks s x) v (λ f. one any (picks s x) v f (λ l w. refl) s (picks-word s v x h e ∙ sym e) (picks_fit s x h f) (l f))
