-- The words that stand in a store print as the listing's.
use Rattle.std.proofs.Common.{◌≡◌, ℕ, ◌+◌, ◌*◌, ◌/◌, ◌%◌, Bool, true, false, cond, eqb, List, [], ◌∷◌, ◌++◌, take, Ok, codes, sym, refl, ap, ◌∙◌, subst, div-add-mod', arith, length, ◌≤◌}
use Rattle.std.proofs.lemmas.List.{length-take}
use Rattle.std.proofs.lemmas.Bool.Decides.{nat_tests}
use Rattle.text.specs.Lines.{lines}
use Rattle.printing.specs.Printed.{newline, printed, word_row, words_text}
use Rattle.printing.proofs.Printed.{printed_one, printed_two}
use Rattle.formats.specs.Layouts.{size}
use Rattle.operations.specs.Manual.{form_at}
use Rattle.instructions.specs.Words.{halves, word_of}
use Rattle.instructions.proofs.Sizes.{low_bits_tell}
use Rattle.items.specs.Items.{Item, Lawful, AllLawful, words, halfs}
use Rattle.lives.specs.Listing.{Stage, end}
use Rattle.sheets.specs.History.{history}
use Rattle.sheets.specs.Entries.{Holds}
use Rattle.sheets.specs.Sheet.{rows, text_of, answer}

-- a word's halfwords, before others
abbrev Prints : ℕ → ℕ → ℕ → List ℕ → Type 0
Prints place n w hs = printed place (halves n w ++ hs) ≡ word_row place (4 * n) w ++ printed (place + n) hs

not_three : (w : ℕ) → eqb (w % 4) 3 ≡ false → w % 4 ≡ 3 → ⊥
not_three w f e = let t : eqb (w % 4) 3 ≡ true = grind (arith, nat_tests) in let z : ◌≡◌ {A = ℕ} 0 1 = cc in omega arith

first : (place n w : ℕ) (hs : List ℕ) → n ≡ cond (eqb (w % 4) 3) 2 1 → Prints place n w hs
first place n w hs e = go (eqb (w % 4) 3) refl
  where
    go : (b : Bool) → eqb (w % 4) 3 ≡ b → Prints place n w hs
    go true t =
        let two : n ≡ 2 = e ∙ ap (λ b. cond b 2 1) t in
        let low : w % 65536 % 4 ≡ 3 = let q : w % 4 ≡ 3 = grind (arith, nat_tests) in omega arith in
        subst (λ m. Prints place m w hs) (sym two)
        (printed_two place (w % 65536) (w / 65536) hs low ∙ ap (λ x. word_row place 8 x ++ printed (place + 2) hs) (div-add-mod' w 65536))
    go false t =
        let one : n ≡ 1 = e ∙ ap (λ b. cond b 2 1) t in
        subst (λ m. Prints place m w hs) (sym one) (printed_one place w hs (not_three w t))

pub prints : (place : ℕ) (code : List Item) → AllLawful code → printed place (halfs code) ≡ rows place code
unfolding words Lawful
prints place [] r = refl
prints place (x ∷ xs) r =
    let n = size (form_at x.0).kind in
    first place n (word_of (form_at x.0) x.1) (halfs xs) (low_bits_tell x.0 x.1 r.0.0)
    ∙ ap (λ t. word_row place (4 * n) (word_of (form_at x.0) x.1) ++ t) (prints (place + n) xs r.1)

-- the words that stand where a sheet's listing does are its answer
pub words_answer : (bytes : List ℕ) (s : Stage) (cells : List ℕ) → history 256 (lines bytes) ≡ Ok s → Holds s cells → words_text (take (end s.listing) cells) ≡ answer bytes
words_answer bytes s cells e t =
    ap words_text t.words
    ∙ ap (λ t. codes "at,word" ++ newline ++ t) (prints 0 s.listing.code t.lawful)
    ∙ sym (ap text_of e)

-- the store has them
pub holds_within : (s : Stage) (cells : List ℕ) → Holds s cells → end s.listing ≤ length cells
holds_within s cells t = omega (arith, ap length t.words, length-take (end s.listing) cells)
