-- What a walk along a layout comes to. Assumes nothing.
use Rattle.std.proofs.Common.{◌≡◌, ℕ, zero, suc, ◌+◌, ◌-◌, ◌*◌, ◌/◌, ◌%◌, ◌^◌, ◌<◌, ◌≤◌, true, cond, ◌&&◌, eqb, leb, List, [], ◌∷◌, length, get_or, drop, reverse, sym, ap, ◌∙◌, subst, ap₂, subst₂, lt_of_lt_of_le, le_of_suc-le-suc, not-suc-le-zero, mod-lt, div-one, arith, drop-cons, pow_pos, pow_mono, shl_exact}
use lib.Bits.{bit_or}
use Rattle.std.specs.List.{fold, sum_by}
use Rattle.std.proofs.lemmas.List.{length-reverse, get_or-reverse}
use Rattle.std.proofs.lemmas.Bool.{and_parts}
use Rattle.std.proofs.lemmas.Bool.Decides.{nat_tests}
use Rattle.bits.specs.declared.part.Field.{Field}
use Rattle.bits.specs.declared.part.Values.{Values}
use Rattle.bits.specs.declared.part.Part.{Part}
use Rattle.bits.specs.declared.part.Part.TheVariants.{Fixed, Slice}
use Rattle.bits.specs.Layout.{index, width, value, total, word, bits_in, pick, handy, Handy, handies, Handies}
use Rattle.bits.proofs.Layouts.{word_lt}

pub handy_width : (p : Part) → Handy p → width p < 32
handy_width (Fixed w c) h = grind (arith, nat_tests)
handy_width (Slice f l w) h = grind (arith, nat_tests)

pub handies_at : (s : List Part) (i : ℕ) (d : Part) → Handies s → i < length s → Handy (get_or s i d) × (total (drop (suc i) s) + width (get_or s i d) ≤ 32)
handies_at [] i d h l = absurd (not-suc-le-zero l)
handies_at (p ∷ s) zero d h l =
    let a = and_parts (handy p) (leb (total s + width p) 32 && handies s) h in
    let b = and_parts (leb (total s + width p) 32) (handies s) a.1 in
    (a.0, (let e = b.0 in grind (arith, nat_tests)))
handies_at (p ∷ s) (suc i) d h l =
    let a = and_parts (handy p) (leb (total s + width p) 32 && handies s) h in
    let b = and_parts (leb (total s + width p) 32) (handies s) a.1 in
    handies_at s i d b.1 (le_of_suc-le-suc l)

pub total_le : (s : List Part) → Handies s → total s ≤ 32
total_le [] h = omega arith
total_le (p ∷ s) h =
    let a = and_parts (handy p) (leb (total s + width p) 32 && handies s) h in
    let b = and_parts (leb (total s + width p) 32) (handies s) a.1 in
    let e = b.0 in
    grind (arith, nat_tests)

-- the widths add up
widths : (s : List Part) (a : ℕ) → a + total s ≡ fold (λ b p. b + width p) a s
widths [] a = omega arith
widths (p ∷ s) a = let e = widths s (a + width p) in omega arith

pub total_sum : (s : List Part) → total s ≡ sum_by width s
total_sum s = let e = widths s 0 in omega arith

pub word-drop : (s : List Part) (v : Values) (i : ℕ) (d : Part) → i < length s → word (drop i s) v ≡ word (drop (suc i) s) v * 2 ^ width (get_or s i d) + value (get_or s i d) v
word-drop s v i d h = ap (λ t. word t v) (drop-cons s i d h)

-- the part p of s that has n parts above it
pub record Below (s : List Part) (n : ℕ) (p : Part) : Type 0 where
  pub within : n < length s
  pub handy : Handy p
  pub room : total (drop (length s - n) s) + width p ≤ 32
  pub joined : (v : Values) → word (drop (length s - (n + 1)) s) v ≡ word (drop (length s - n) s) v * 2 ^ width p + value p v

pub below : (s : List Part) (n : ℕ) (p : Part) → Handies s → (n < length (reverse s)) × (p ≡ get_or (reverse s) n p) → Below s n p
below s n p h t =
    let l : n < length s = subst (λ k. n < k) (length-reverse s) t.0 in
    let i : ℕ = length s - 1 - n in
    let b : i < length s = omega arith in
    let j : suc i ≡ length s - n = omega arith in
    let k : i ≡ length s - (n + 1) = omega arith in
    let e : get_or s i p ≡ p = sym (t.1 ∙ get_or-reverse s n p l) in
    let a = handies_at s i p h b in
    record {
      within = l;
      handy = subst Handy e a.0;
      room = subst₂ (λ q m. total (drop m s) + width q ≤ 32) e j a.1;
      joined = λ v. ap (λ m. word (drop m s) v) (sym k) ∙ word-drop s v i p b ∙ ap₂ (λ q m. word (drop m s) v * 2 ^ width q + value q v) e j;
    }

pub pick-drop : (s : List Part) (a : ℕ) (f : Field) (x i : ℕ) (d : Part) → i < length s → pick a (drop i s) f x ≡ pick (bit_or a (bits_in f (get_or s i d) x)) (drop (suc i) s) f (x / 2 ^ width (get_or s i d))
pick-drop s a f x i d h = ap (λ t. pick a t f x) (drop-cons s i d h)

pub room : (s : List Part) (v : Values) (w : ℕ) → total s + w ≤ 32 → word s v < 2 ^ (32 - w)
room s v w h = lt_of_lt_of_le (word_lt s v) (pow_mono (omega arith))

-- a slice's bits, shifted to their place
pub in_slice : (f g : Field) (l w x n : ℕ) → Handy (Slice g l w) → index g ≡ index f → n ≡ x / 1 % 2 ^ w → n * 2 ^ l % 4294967296 ≡ bits_in f (Slice g l w) x
in_slice f g l w x n h e q =
    let t : eqb (index g) (index f) ≡ true = grind (arith, nat_tests) in
    let b : w + l ≤ 32 = grind (arith, nat_tests) in
    ap (λ y. y * 2 ^ l % 4294967296) (q ∙ ap (λ y. y % 2 ^ w) (div-one x))
    ∙ shl_exact w l 32 (mod-lt x (pow_pos w)) b
    ∙ ap (λ y. cond y (x % 2 ^ w * 2 ^ l) 0) (sym t)
