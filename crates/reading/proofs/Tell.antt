-- A word tells its instruction, and halfwords tell a list of them.
use Rattle.std.proofs.Common.{◌≡◌, ℕ, ◌/◌, ◌%◌, Bool, true, false, cond, eqb, ◌<◌, List, [], ◌∷◌, ◌++◌, Some, None, Option, MatchOption, sym, refl, ap, ◌∙◌, subst, ap₂, arith}
use mathlib.Core.Bool.{Bool-set}
use mathlib.Core.HLevel.{is_prop→PathP}
use denote.Struct.Record.{values_one}
use Rattle.std.proofs.lemmas.Bool.Decides.{nat_tests}
use Rattle.bits.proofs.Layouts.{picks_only}
use Rattle.formats.specs.Layouts.{layout}
use Rattle.formats.proofs.Sound.{layout_sound}
use Rattle.operations.specs.declared.row.Form.{Form}
use Rattle.operations.specs.declared.operation.Operation.{Operation}
use Rattle.operations.specs.contracts.operation.Operation as O
use Rattle.operations.specs.Manual.{form_at, count}
use Rattle.instructions.specs.declared.fields.Fields.{Fields}
use Rattle.instructions.specs.declared.instruction.Instruction.{Instruction}
use Rattle.instructions.specs.Faults.{lawful}
use Rattle.instructions.specs.Words.{raw, word_of, the_word, halves, halfwords_in}
use Rattle.instructions.proofs.Forms.{Agrees, form_agrees, raw_fits}
use Rattle.instructions.proofs.Sizes.{low_bits_tell}
use Rattle.reading.specs.Fields.{fields_of}
use Rattle.reading.specs.Reading.{Reads, Unread, WordsTell, listing, HalfwordsTell}
use Rattle.reading.proofs.Backs.{fields_back}
use Rattle.reading.proofs.Apart.{unconfused}

-- one operation: one word, one set of fields
pub fields_one : (r : Form) (f g : Fields) → Agrees r → lawful r f ≡ true → lawful r g ≡ true → word_of r f ≡ word_of r g → f ≡ g
fields_one r f g a hf hg e =
    let s = layout r.kind in
    let p = picks_only s (raw r f) (word_of r f) (layout_sound r.kind) (raw_fits r f a hf) refl in
    let q = picks_only s (raw r g) (word_of r f) (layout_sound r.kind) (raw_fits r g a hg) (sym e) in
    sym (fields_back r f a hf) ∙ ap (fields_of r) (sym p ∙ q) ∙ fields_back r g a hg

pub same_op : (a b : Operation) → a.place ≡ b.place → a ≡ b
same_op a b e = values_one O.struct O.the_propositions a b (λ i. (e i, tt))

pub same : (a b : Instruction) → a.op.place ≡ b.op.place → a.fields ≡ b.fields → a ≡ b
same a b e f =
    let o = same_op a.op b.op e in
    λ i. record { op = o i; fields = f i; ok = is_prop→PathP (λ j. lawful (form_at (o j).place) (f j) ≡ true) (λ j. Bool-set _ _) a.ok b.ok i }

pub words_tell : WordsTell
words_tell a b e =
    let p = unconfused a.op.place b.op.place a.fields b.fields a.op.real b.op.real a.ok b.ok e in
    same a b p
    (fields_one (form_at b.op.place) a.fields b.fields (form_agrees b.op.place b.op.real) (subst (λ k. lawful (form_at k) a.fields ≡ true) p a.ok) b.ok
    (ap (λ k. word_of (form_at k) a.fields) (sym p) ∙ e))

-- what is found among all operations is the instruction whose word it is
pub found : (w : ℕ) (r : Option Instruction) → MatchOption r ((k : ℕ) → k < count → Unread k w) (λ i. the_word i ≡ w) → Reads w r
found w None n i = (λ e. grind (arith, e), λ e. absurd ((n i.op.place i.op.real).none i.fields i.ok e))
found w (Some j) h i = (λ e. let s : j ≡ i = cc in subst (λ i. the_word i ≡ w) s h, λ e. ap Some (words_tell j i (h ∙ sym e)))

-- ---- lists

-- an instruction's halfwords by its word alone
by_word : (i : Instruction) → halfwords_in i ≡ halves (cond (eqb (the_word i % 4) 3) 2 1) (the_word i)
by_word i = ap (λ n. halves n (the_word i)) (low_bits_tell i.op.place i.fields i.op.real)

-- the first halfwords tell the words
split : (w v : ℕ) (xs ys : List ℕ) (b c : Bool) → eqb (w % 4) 3 ≡ b → eqb (v % 4) 3 ≡ c → halves (cond b 2 1) w ++ xs ≡ halves (cond c 2 1) v ++ ys → (w ≡ v) × (xs ≡ ys)
split w v xs ys true true p q e =
    let l : w % 65536 ≡ v % 65536 = cc in
    let h : w / 65536 ≡ v / 65536 = cc in
    let t : xs ≡ ys = cc in
    (omega arith, t)
split w v xs ys true false p q e =
    let l : w % 65536 ≡ v = cc in
    let m : w % 4 ≡ 3 = grind (arith, nat_tests) in
    let n : v % 4 ≡ 3 → ⊥ = grind (arith, nat_tests) in
    absurd (n (omega arith))
split w v xs ys false true p q e =
    let l : w ≡ v % 65536 = cc in
    let m : v % 4 ≡ 3 = grind (arith, nat_tests) in
    let n : w % 4 ≡ 3 → ⊥ = grind (arith, nat_tests) in
    absurd (n (omega arith))
split w v xs ys false false p q e =
    let l : w ≡ v = cc in
    let t : xs ≡ ys = cc in
    (l, t)

empty : (w : ℕ) (xs : List ℕ) (b : Bool) → [] ≡ halves (cond b 2 1) w ++ xs → ⊥
empty w xs true e = grind (arith, e)
empty w xs false e = grind (arith, e)

pub halfwords_tell : HalfwordsTell
halfwords_tell [] [] e = refl
halfwords_tell [] (j ∷ q) e = absurd (empty (the_word j) (listing q) (eqb (the_word j % 4) 3) (e ∙ ap (λ t. t ++ listing q) (by_word j)))
halfwords_tell (i ∷ p) [] e = absurd (empty (the_word i) (listing p) (eqb (the_word i % 4) 3) (sym e ∙ ap (λ t. t ++ listing p) (by_word i)))
halfwords_tell (i ∷ p) (j ∷ q) e =
    let s = split (the_word i) (the_word j) (listing p) (listing q) (eqb (the_word i % 4) 3) (eqb (the_word j % 4) 3) refl refl
    (sym (ap (λ t. t ++ listing p) (by_word i)) ∙ e ∙ ap (λ t. t ++ listing q) (by_word j)) in
    ap₂ ◌∷◌ (words_tell i j s.0) (halfwords_tell p q s.1)
