-- Items and their halfwords. Assumes nothing.
use Rattle.std.proofs.Common.{◌≡◌, ℕ, ◌/◌, ◌%◌, ◌≤◌, Bool, true, false, cond, eqb, List, [], ◌∷◌, ◌++◌, map, length, ℤ, sym, refl, ap, ◌∙◌, ap₂, arith}
use Rattle.formats.specs.Layouts.{size}
use Rattle.operations.specs.Manual.{form_at}
use Rattle.instructions.specs.declared.instruction.Instruction.{Instruction}
use Rattle.instructions.specs.Words.{word_of}
use Rattle.reading.specs.Reading.{listing}
use Rattle.reading.proofs.Tell.{halfwords_tell}
use Rattle.items.specs.Items.{Item, item_of, Lawful, AllLawful, words, halfs, aimed_at}
use Rattle.items.specs.Laws.{ItemLaws}

halves_some : (t : Bool) (w : ℕ) → 1 ≤ length (cond t (w ∷ []) (w % 65536 ∷ w / 65536 ∷ []))
halves_some true w = omega arith
halves_some false w = omega arith

halves_few : (t : Bool) (w : ℕ) → length (cond t (w ∷ []) (w % 65536 ∷ w / 65536 ∷ [])) ≤ 2
halves_few true w = omega arith
halves_few false w = omega arith

halves_same : (t : Bool) (w x : ℕ) → length (cond t (w ∷ []) (w % 65536 ∷ w / 65536 ∷ [])) ≡ length (cond t (x ∷ []) (x % 65536 ∷ x / 65536 ∷ []))
halves_same true w x = refl
halves_same false w x = refl

words_some : (i : Item) → 1 ≤ length (words i)
unfolding words
words_some i = halves_some (eqb (size (form_at i.0).kind) 1) (word_of (form_at i.0) i.1)

words_few : (i : Item) → length (words i) ≤ 2
unfolding words
words_few i = halves_few (eqb (size (form_at i.0).kind) 1) (word_of (form_at i.0) i.1)

-- how many halfwords follows from the operation
pub words_sized : (i : Item) (z : ℤ) → length (words (aimed_at i z)) ≡ length (words i)
unfolding words aimed_at
words_sized i z = halves_same (eqb (size (form_at i.0).kind) 1) (word_of (form_at i.0) (aimed_at i z).1) (word_of (form_at i.0) i.1)

-- an instruction of each lawful item
instruction : (i : Item) → Lawful i → Instruction
unfolding Lawful
instruction i h = record { op = record { place = i.0; real = h.0 }; fields = i.1; ok = h.1 }

item_back : (i : Item) (h : Lawful i) → item_of (instruction i h) ≡ i
unfolding Lawful instruction
item_back i h = refl

instructions : (code : List Item) → AllLawful code → List Instruction
instructions [] h = []
instructions (i ∷ is) h = instruction i h.0 ∷ instructions is h.1

items_back : (code : List Item) (h : AllLawful code) → map item_of (instructions code h) ≡ code
unfolding instructions
items_back [] h = refl
items_back (i ∷ is) h = ap₂ (λ (x : Item) (xs : List Item). x ∷ xs) (item_back i h.0) (items_back is h.1)

-- their halfwords
listing_items : (is : List Instruction) → listing is ≡ halfs (map item_of is)
unfolding words
listing_items [] = refl
listing_items (i ∷ is) = ap (λ (xs : List ℕ). words (item_of i) ++ xs) (listing_items is)

once : (is : List Instruction) (code : List Item) → AllLawful code → listing is ≡ halfs code → map item_of is ≡ code
once is code h e =
    let same = halfwords_tell is (instructions code h) (e ∙ ap halfs (sym (items_back code h)) ∙ sym (listing_items (instructions code h))) in
    ap (map item_of) same ∙ items_back code h

lawful : (i : Instruction) → Lawful (item_of i)
unfolding Lawful
lawful i = (i.op.real, i.ok)

pub item_laws : ItemLaws
item_laws = record { some = words_some; few = words_few; once = once; lawful = lawful }
