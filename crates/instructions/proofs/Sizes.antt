-- The low two bits of a word are its operation's, and tell its size.
use Rattle.std.proofs.Common.{◌≡◌, ℕ, ◌+◌, ◌*◌, ◌/◌, ◌%◌, ◌^◌, ◌<◌, Bool, true, false, cond, eqb, List, [], ◌∷◌, get_or, sym, refl, ap, ◌∙◌, subst, ap₂, mod-lt, mod-eq_of_lt, arith, pow_pos}
use lib.Bits.{bit_and, and_mod, and_mask}
use Rattle.std.specs.List.{list_all}
use Rattle.std.proofs.lemmas.Bool.{false≢true, eqb-true}
use Rattle.std.proofs.lemmas.Bool.Decides.{nat_tests}
use Rattle.bits.specs.declared.part.Field.{Field}
use Rattle.bits.specs.declared.part.Field.TheVariants.{D, A, B, N, M, Opcode, Funct3, Funct}
use Rattle.bits.specs.declared.part.Part.{Part}
use Rattle.bits.specs.declared.part.Part.TheVariants.{Fixed, Slice}
use Rattle.bits.specs.declared.part.Values.{Values}
use Rattle.bits.specs.Layout.{value_at, code, fixed, total, word, mask, bits}
use Rattle.bits.proofs.Layouts.{under, word_lt}
use Rattle.formats.specs.Layouts.{layout, size}
use Rattle.operations.specs.declared.row.Form.{Form}
use Rattle.operations.specs.Manual.{Entry, operations, form_at, no_entry, count}
use Rattle.operations.proofs.Rows.{operations_length}
use Rattle.instructions.specs.declared.fields.Fields.{Fields}
use Rattle.instructions.specs.declared.instruction.Instruction.{Instruction}
use Rattle.instructions.specs.Words.{raw, the_word, halves, halfwords_in}
use Rattle.instructions.specs.Laws.{LowBitsTell}
use Rattle.instructions.proofs.Checks.{all, test, every_at}

cond_same : (b : Bool) (x y : ℕ) → (b ≡ true → x ≡ y) → cond b x 0 ≡ cond b y 0
cond_same true x y h = h refl
cond_same false x y h = refl

-- the fixed bits depend on the codes alone
pub bits_same : (s : List Part) (v u : Values) → ((f : Field) → code f ≡ true → value_at f v ≡ value_at f u) → bits s v ≡ bits s u
bits_same [] v u h = refl
bits_same (Fixed w c ∷ s) v u h = ap (λ x. x * 2 ^ w + c % 2 ^ w) (bits_same s v u h)
bits_same (Slice f l w ∷ s) v u h =
    ap₂ (λ (x y : ℕ). x * 2 ^ w + y) (bits_same s v u h)
    (cond_same (code f) (value_at f v / 2 ^ l % 2 ^ w) (value_at f u / 2 ^ l % 2 ^ w) (λ t. ap (λ x. x / 2 ^ l % 2 ^ w) (h f t)))

-- an operation's codes, with no other field
abbrev pub codes : Form → Values
codes r = record { d = 0; a = 0; b = 0; n = 0; m = 0; opcode = r.opcode; funct3 = r.funct3; funct = r.funct }

same_codes : (r : Form) (f : Fields) (g : Field) → code g ≡ true → value_at g (raw r f) ≡ value_at g (codes r)
same_codes r f D t = absurd (false≢true t)
same_codes r f A t = absurd (false≢true t)
same_codes r f B t = absurd (false≢true t)
same_codes r f N t = absurd (false≢true t)
same_codes r f M t = absurd (false≢true t)
same_codes r f Opcode t = refl
same_codes r f Funct3 t = refl
same_codes r f Funct t = refl

pub raw_bits : (r : Form) (f : Fields) → bits (layout r.kind) (raw r f) ≡ bits (layout r.kind) (codes r)
raw_bits r f = bits_same (layout r.kind) (raw r f) (codes r) (same_codes r f)

low : (s : List Part) (v : Values) → mask s % 4 ≡ 3 → word s v % 4 ≡ bits s v % 4
low s v h =
    sym (and_mask (word s v % 4) 2 ∙ mod-eq_of_lt (mod-lt (word s v) (pow_pos 2)))
    ∙ ap (bit_and (word s v % 4)) (sym h) ∙ sym (and_mod (word s v) (mask s) 2) ∙ ap (λ x. x % 4) (under fixed s v)

-- the low two bits are fixed, and tell the size; a word has sixteen bits a halfword
abbrev told : Form → List Bool
told r =
    eqb (mask (layout r.kind) % 4) 3
    ∷ eqb (size r.kind) (cond (eqb (bits (layout r.kind) (codes r) % 4) 3) 2 1)
    ∷ eqb (total (layout r.kind)) (16 * size r.kind)
    ∷ []

all_told : list_all (λ (e : Entry). all (told e.form)) operations ≡ true
unfolding operations
all_told = refl

told_at : (k : ℕ) → k < count → (j : ℕ) → get_or (told (form_at k)) j true ≡ true
told_at k h = test (told (form_at k)) (every_at (λ (e : Entry). all (told e.form)) operations no_entry all_told k (subst (λ (n : ℕ). k < n) (sym operations_length) h))

pub low_bits_tell : LowBitsTell
low_bits_tell k f h =
    let r = form_at k in
    let s = layout r.kind in
    eqb-true (size r.kind) (cond (eqb (bits s (codes r) % 4) 3) 2 1) (told_at k h 1)
    ∙ sym (ap (λ x. cond (eqb x 3) 2 1) (low s (raw r f) (eqb-true (mask s % 4) 3 (told_at k h 0)) ∙ ap (λ x. x % 4) (raw_bits r f)))

-- ---- an instruction's halfwords

told_one : (i : Instruction) (x : ℕ) → x ≡ the_word i → (x % 4 ≡ 3 → ⊥) → size (form_at i.op.place).kind ≡ 1
told_one i x e n =
    let b : eqb (x % 4) 3 ≡ false = grind (arith, nat_tests) in
    low_bits_tell i.op.place i.fields i.op.real ∙ ap (λ w. cond (eqb (w % 4) 3) 2 1) (sym e) ∙ ap (λ b. cond b 2 1) b

pub by_word : (i : Instruction) (x : ℕ) → x ≡ the_word i → halfwords_in i ≡ halves (cond (eqb (x % 4) 3) 2 1) x
by_word i x e =
    ap (λ n. halves n (the_word i)) (low_bits_tell i.op.place i.fields i.op.real) ∙ ap (λ x. halves (cond (eqb (x % 4) 3) 2 1) x) (sym e)

-- a word of one halfword is below 65536
pub one_small : (i : Instruction) (x : ℕ) → x ≡ the_word i → (x % 4 ≡ 3 → ⊥) → x < 65536
one_small i x e n =
    let k = (form_at i.op.place).kind in
    let s = eqb-true (total (layout k)) (16 * size k) (told_at i.op.place i.op.real 2) ∙ ap (λ m. 16 * m) (told_one i x e n) in
    subst (λ m. x < 2 ^ m) s (subst (λ w. w < 2 ^ total (layout k)) (sym e) (word_lt (layout k) (raw (form_at i.op.place) i.fields)))
