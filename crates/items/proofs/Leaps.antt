-- Jumps, where they stand and at another distance. Assumes nothing.
use Rattle.std.proofs.Common.{◌≡◌, ℕ, ◌+◌, ◌*◌, ◌%◌, ◌≤◌, Bool, true, false, cond, eqb, ◌⊎◌, List, ◌++◌, length, get_or, take, ℤ, Some, None, Option, IfSome, sym, refl, ap, ◌∙◌, inl, inr, arith}
use Rattle.std.specs.List.{slice_get}
use Rattle.std.proofs.lemmas.Option.{slice_get-get_or, slice_get_past as nth_past}
use Rattle.std.proofs.lemmas.Bool.{cases_lt}
use Rattle.store.specs.Puts.{applied, puts}
use Rattle.operations.specs.Manual.{form_at}
use Rattle.instructions.specs.declared.instruction.Instruction.{Instruction}
use Rattle.instructions.specs.Faults.{number_ok}
use Rattle.instructions.specs.Words.{word_of, halfwords_of}
use Rattle.instructions.proofs.Sizes.{low_bits_tell}
use Rattle.reading.specs.Places.{begun, with_high}
use Rattle.aiming.specs.Standing.{reaching_only, aimed as aimed_to, at_distance, halfwords_found, spelled, jump_at}
use Rattle.aiming.proofs.Lawfuls.{aimed_lawful}
use Rattle.reading.proofs.Takes.{nth_take, nth_take_past}
use Rattle.aiming.proofs.Stands.{halfwords_length, jump_amid, jump_here, jump_apart, jump_put}
use Rattle.items.specs.Items.{Item, item_of, Lawful, words, jumps, in_reach, aimed_at, distance_of, aimed_words, jump_standing}
use Rattle.items.specs.Laws.{JumpLaws}
use Rattle.items.proofs.Items.{words_sized}

aimed : (i : Item) (z : ℤ) → Lawful i → jumps i ≡ true → in_reach i z ≡ true → Lawful (aimed_at i z)
unfolding Lawful jumps in_reach aimed_at
aimed i z w j r = (w.0, aimed_lawful i.0 i.1 z w.0 j w.1 r)

still : (i : Item) (z : ℤ) → jumps (aimed_at i z) ≡ jumps i
unfolding jumps aimed_at
still i z = refl

told : (i : Item) (z : ℤ) → distance_of (aimed_at i z) ≡ z
unfolding distance_of aimed_at
told i z = refl

found : (i : Item) (before after : List ℕ) (used : ℕ) → Lawful i → jumps i ≡ true → length before + length (words i) ≤ used → jump_standing (before ++ (words i ++ after)) used (length before) ≡ Some i
unfolding Lawful jumps words jump_standing
found i before after used w j h = jump_amid i.0 i.1 before after used w.0 w.1 j (let n = halfwords_length i.0 i.1 w.0 in omega arith)

stands : (cells : List ℕ) (used p : ℕ) (i : Item) → jump_standing cells used p ≡ Some i → Lawful i × (jumps i ≡ true) × (p + length (words i) ≤ used) × (p + length (words i) ≤ length cells)
unfolding Lawful jumps words jump_standing
stands cells used p i e =
    let h = jump_here cells used p i.0 i.1 e in
    let n = halfwords_length i.0 i.1 h.real in
    let a = h.inside in
    let b = h.within in
    ((h.real, h.ok), h.jumps, omega arith, omega arith)

-- the first halfword of a word has its low two bits
low : (t : Bool) (x w : ℕ) (o : Option ℕ) → eqb (x % 4) 3 ≡ t → cond t (with_high x o) (Some x) ≡ Some w → w % 4 ≡ x % 4
low true x w None e h = cc
low true x w (Some y) e h = let f : y * 65536 + x ≡ w = cc in omega arith
low false x w o e h = let f : x ≡ w = cc in ap (λ n. n % 4) (sym f)

first : (o n : Option ℕ) (w : ℕ) → begun o n ≡ Some w → (x : ℕ) × (o ≡ Some x) × (w % 4 ≡ x % 4)
first None n w e = cc
first (Some x) n w e = (x, refl, low (eqb (x % 4) 3) x w n refl e)

read_at : (xs : List ℕ) (used p x : ℕ) → slice_get (take used xs) p ≡ Some x → get_or xs p 0 ≡ x
read_at xs used p x e =
    elim (cases_lt p used) [
      | inl h ↦ (let f : slice_get xs p ≡ Some x = sym (nth_take used xs p h) ∙ e in
          elim (cases_lt p (length xs)) [ inl m ↦ (let g = slice_get-get_or xs p 0 m in cc) | inr m ↦ (let g = nth_past xs p m in cc) ])
      | inr h ↦ (let g = nth_take_past used xs p h in cc)
    ]

length_by : (cells : List ℕ) (used p : ℕ) (i : Item) → jump_standing cells used p ≡ Some i → length (words i) ≡ cond (eqb (get_or cells p 0 % 4) 3) 2 1
unfolding words jump_standing
length_by cells used p i e =
    let h = jump_here cells used p i.0 i.1 e in
    let f = first (slice_get (take used cells) p) (slice_get (take used cells) (p + 1)) (word_of (form_at i.0) i.1) h.word in
    halfwords_length i.0 i.1 h.real
    ∙ low_bits_tell i.0 i.1 h.real
    ∙ ap (λ n. cond (eqb n 3) 2 1) (f.2 ∙ ap (λ n. n % 4) (sym (read_at cells used p f.0 f.1)))

left : (cells : List ℕ) (used p : ℕ) (i : Item) (q : ℕ) (hs : List ℕ) → jump_standing cells used p ≡ Some i → (p + length (words i) ≤ q) ⊎ (q + length hs ≤ p) → jump_standing (applied (puts q hs) cells) used p ≡ Some i
unfolding words jump_standing
left cells used p i q hs e h =
    let n = halfwords_length i.0 i.1 (jump_here cells used p i.0 i.1 e).real in
    jump_apart cells used p i.0 i.1 q hs e (elim h [ inl a ↦ inl (omega arith) | inr a ↦ inr a ])

put : (cells : List ℕ) (used p : ℕ) (i : Item) (z : ℤ) → jump_standing cells used p ≡ Some i → in_reach i z ≡ true → jump_standing (applied (puts p (words (aimed_at i z))) cells) used p ≡ Some (aimed_at i z)
unfolding words jump_standing in_reach aimed_at
put cells used p i z e r = jump_put cells used p i.0 i.1 z e r

pub jump_laws : JumpLaws
jump_laws = record {
  sized = words_sized;
  aimed = aimed;
  still = still;
  told = told;
  found = found;
  stands = stands;
  length_by = length_by;
  left = left;
  put = put;
}

-- what stands at a place is a jump
pub jumps_there : (r : Option Instruction) (cells : List ℕ) (used p : ℕ) → spelled r ≡ jump_at cells used p → IfSome r (λ i. jumps (item_of i) ≡ true)
unfolding jumps
jumps_there None cells used p e = tt
jumps_there (Some i) cells used p e = (jump_here cells used p i.op.place i.fields (sym e)).jumps

found_if : (b : Bool) (i : Item) → halfwords_found (cond b (Some i) None) ≡ cond b (Some (halfwords_of i.0 i.1)) None
found_if true i = refl
found_if false i = refl

-- a jump's halfwords at another distance
pub aimed_jump : (i : Item) (z : ℤ) (r : Option (List ℕ)) → jumps i ≡ true → r ≡ halfwords_found (aimed_to (reaching_only (Some i)) z) → r ≡ aimed_words i z
unfolding words jumps in_reach aimed_at
aimed_jump i z r j e =
    e
    ∙ ap (λ b. halfwords_found (aimed_to (cond b (Some i) None) z)) j
    ∙ found_if (number_ok (form_at i.0).n z) (i.0, at_distance i.1 z)
