-- The lines of words.
use Rattle.std.proofs.Common.{◌≡◌, ℕ, ◌+◌, ◌*◌, ◌%◌, ◌^◌, ◌<◌, ◌≤◌, true, false, cond, eqb, List, [], ◌∷◌, ◌++◌, length, get_or, take, drop, sym, refl, ap, ◌∙◌, arith, length-append}
use Rattle.std.proofs.lemmas.List.{append-nil, drop_all, drop-drop, drop_more, get_or-take, length-take, length-take-le}
use Rattle.std.proofs.lemmas.Bool.{cond-true, cond-false, cond_both, eq-eqb, ne_eqb}
use Rattle.text.specs.Decimal.{digits}
use Rattle.text.specs.Written.{hex}
use Rattle.text.proofs.Numerals.{length-digits_le}
use Rattle.text.proofs.Hex.{length-hex}
use Rattle.printing.specs.Printed.{comma, newline, word_row, printed}
use Rattle.printing.specs.Words.{word_from, word_at, words_from, row_of}
use Rattle.text.specs.Words.{halves_of}
use Rattle.text.specs.declared.words.Word.{Word}
use Rattle.text.specs.declared.words.Word.TheVariants.{Short, Wide}

-- a halfword that begins no word of two
pub printed_one : (place x : ℕ) (hs : List ℕ) → (x % 4 ≡ 3 → ⊥) → printed place (x ∷ hs) ≡ word_row place 4 x ++ printed (place + 1) hs
printed_one place x [] ne = sym (append-nil (word_row place 4 x))
printed_one place x (y ∷ hs) ne = cond-false (eqb (x % 4) 3) (word_row place 8 (y * 65536 + x) ++ printed (place + 2) hs) (word_row place 4 x ++ printed (place + 1) (y ∷ hs)) (ne_eqb (x % 4) 3 ne)

-- two halfwords that are a word
pub printed_two : (place x y : ℕ) (hs : List ℕ) → x % 4 ≡ 3 → printed place (x ∷ (y ∷ hs)) ≡ word_row place 8 (y * 65536 + x) ++ printed (place + 2) hs
printed_two place x y hs e = cond-true (eqb (x % 4) 3) (word_row place 8 (y * 65536 + x) ++ printed (place + 2) hs) (word_row place 4 x ++ printed (place + 1) (y ∷ hs)) (eq-eqb (x % 4) 3 e)

-- the length of a line
length_row : (place count word : ℕ) → length (word_row place count word) ≡ length (digits (2 * place)) + count + 2
length_row place count word =
    let a = digits (2 * place) in
    let h = hex count word in
    omega (arith, length-append (a ++ comma ++ h) newline, length-append (a ++ comma) h, length-append a comma, length-hex count word)

-- a number of 32 bits has at most ten digits
pub digits_short : (n : ℕ) → n < 2 ^ 32 → length (digits n) ≤ 10
digits_short n l = length-digits_le 10 n (omega arith) (omega arith)

-- the lines of words
abbrev pub rows : List (ℕ × Word) → List ℕ
rows [] = []
rows (x ∷ xs) = row_of x.0 x.1 ++ rows xs

-- the text of halfwords is the lines of their words
pub printed_rows : (place : ℕ) (hs : List ℕ) → rows (words_from place hs) ≡ printed place hs
printed_rows place [] = refl
printed_rows place (x ∷ []) = append-nil (word_row place 4 x)
printed_rows place (x ∷ (y ∷ hs)) =
    elim (eqb (x % 4) 3) as (λ b. rows (cond b ((2 * place, Wide (y * 65536 + x)) ∷ words_from (place + 2) hs) ((2 * place, Short x) ∷ words_from (place + 1) (y ∷ hs))) ≡ cond b (word_row place 8 (y * 65536 + x) ++ printed (place + 2) hs) (word_row place 4 x ++ printed (place + 1) (y ∷ hs))) [
      | true ↦ ap (λ r. word_row place 8 (y * 65536 + x) ++ r) (printed_rows (place + 2) hs)
      | false ↦ ap (λ r. word_row place 4 x ++ r) (printed_rows (place + 1) (y ∷ hs))
    ]

-- the word that stands first, and those that follow
words_first : (place x : ℕ) (hs : List ℕ) → words_from place (x ∷ hs) ≡ (2 * place, word_from x hs) ∷ words_from (place + halves_of (word_from x hs)) (drop (halves_of (word_from x hs)) (x ∷ hs))
words_first place x [] = refl
words_first place x (y ∷ hs) =
    elim (eqb (x % 4) 3) as (λ b. cond b ((2 * place, Wide (y * 65536 + x)) ∷ words_from (place + 2) hs) ((2 * place, Short x) ∷ words_from (place + 1) (y ∷ hs)) ≡ (2 * place, cond b (Wide (y * 65536 + x)) (Short x)) ∷ words_from (place + halves_of (cond b (Wide (y * 65536 + x)) (Short x))) (drop (halves_of (cond b (Wide (y * 65536 + x)) (Short x))) (x ∷ (y ∷ hs)))) [
      | true ↦ refl
      | false ↦ refl
    ]

-- the words from a place on: the one there, and those that follow
pub words_step : (hs : List ℕ) (place address : ℕ) (w : Word) (n : ℕ) → place < length hs → address ≡ 2 * place → w ≡ word_at hs place → n ≡ halves_of w → words_from place (drop place hs) ≡ (address, w) ∷ words_from (place + n) (drop (place + n) hs)
words_step hs place address w n l ea ew en =
    let d = drop_more hs place 0 l in
    let v = word_at hs place in
    let s = ap (words_from place) d ∙ words_first place (get_or hs place 0) (drop (place + 1) hs) ∙ ap (λ r. (2 * place, v) ∷ words_from (place + halves_of v) r) (ap (drop (halves_of v)) (sym d) ∙ drop-drop (halves_of v) place hs) in
    cc

word_short : (x : ℕ) (hs : List ℕ) → (x % 4 ≡ 3 → ⊥) → Short x ≡ word_from x hs
word_short x [] ne = refl
word_short x (y ∷ hs) ne = sym (cond-false (eqb (x % 4) 3) (Wide (y * 65536 + x)) (Short x) (ne_eqb (x % 4) 3 ne))

module _ (all : List ℕ) (used place low : ℕ) (inside : place < used) (stored : used ≤ length all) (first : low ≡ get_or all place 0) where
  kept : low ≡ get_or (take used all) place 0
  kept = first ∙ sym (get_or-take used all place 0 inside)

  -- a halfword that begins no word of two is a word of its own
  pub short_half : (low % 4 ≡ 3 → ⊥) → Short low ≡ word_at (take used all) place
  short_half ne = ap Short kept ∙ word_short (get_or (take used all) place 0) (drop (place + 1) (take used all)) (λ e. ne (ap (λ x. x % 4) kept ∙ e))

  -- so is the last
  pub last_half : used ≡ place + 1 → Short low ≡ word_at (take used all) place
  last_half e = ap Short kept ∙ ap (word_from (get_or (take used all) place 0)) (sym (drop_all (place + 1) (take used all) (omega (arith, length-take-le used all stored))))

  -- two halfwords that are a word
  pub two_halves : (high : ℕ) → low % 4 ≡ 3 → place + 1 < used → high ≡ get_or all (place + 1) 0 → Wide (high * 65536 + low) ≡ word_at (take used all) place
  two_halves high e l second =
      let x = get_or (take used all) place 0 in
      let y = get_or (take used all) (place + 1) 0 in
      let d = drop_more (take used all) (place + 1) 0 (omega (arith, length-take-le used all stored)) in
      ap (λ v. Wide (v * 65536 + low)) (second ∙ sym (get_or-take used all (place + 1) 0 l)) ∙ ap (λ v. Wide (y * 65536 + v)) kept ∙ sym (ap (word_from x) d ∙ cond-true (eqb (x % 4) 3) (Wide (y * 65536 + x)) (Short x) (eq-eqb (x % 4) 3 (ap (λ v. v % 4) (sym kept) ∙ e)))

-- a line has at most nine bytes for each halfword of its word
row_short : (place : ℕ) (w : Word) → place < 500 → length (row_of (2 * place) w) ≤ 5 + 4 * halves_of w
row_short place (Short x) l = omega (arith, length_row place 4 x, length-digits_le 3 (2 * place) (omega arith) (omega arith))
row_short place (Wide x) l = omega (arith, length_row place 8 x, length-digits_le 3 (2 * place) (omega arith) (omega arith))

-- so have all
pub printed_short : (place : ℕ) (hs : List ℕ) → place + length hs ≤ 256 → length (printed place hs) ≤ 9 * length hs
printed_short place [] l = omega arith
printed_short place (x ∷ []) l = omega (arith, row_short place (Short x) (omega arith))
printed_short place (x ∷ (y ∷ hs)) l =
    cond_both (eqb (x % 4) 3) (word_row place 8 (y * 65536 + x) ++ printed (place + 2) hs) (word_row place 4 x ++ printed (place + 1) (y ∷ hs)) (λ t. length t ≤ 9 * length (x ∷ (y ∷ hs)))
    (λ _. omega (arith, length-append (word_row place 8 (y * 65536 + x)) (printed (place + 2) hs), row_short place (Wide (y * 65536 + x)) (omega arith), printed_short (place + 2) hs (omega arith)))
    (λ _. omega (arith, length-append (word_row place 4 x) (printed (place + 1) (y ∷ hs)), row_short place (Short x) (omega arith), printed_short (place + 1) (y ∷ hs) (omega arith)))

-- those of the used halfwords of a store
pub rows_short : (used : ℕ) (all : List ℕ) → used ≤ 256 → length (printed 0 (take used all)) ≤ 2304
rows_short used all l =
    let t = length-take used all in
    omega (arith, t, printed_short 0 (take used all) (omega (arith, t)))

-- a line that is still to be written fits
pub row_fits : (text whole : List ℕ) (address : ℕ) (w : Word) (words rest : List (ℕ × Word)) → text ++ rows words ≡ whole → words ≡ (address, w) ∷ rest → length text + length (row_of address w) ≤ length whole
row_fits text whole address w words rest e s =
    omega (arith, ap length e, length-append text (rows words), ap (λ ws. length (rows ws)) s, length-append (row_of address w) (rows rest))
