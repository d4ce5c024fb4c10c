-- What a jump's halfwords say of the jump at their place, and the other way round.
use Rattle.std.proofs.Common.{◌≡◌, ℕ, ◌+◌, ◌*◌, ◌/◌, ◌%◌, ◌<◌, ◌≤◌, Bool, true, false, cond, eqb, ◌⊎◌, List, ◌++◌, length, take, drop, ℤ, Some, None, Option, sym, refl, ap, ◌∙◌, ap₂, inl, inr, append_assoc, add-zero, div-add-mod', arith, length-take}
use Rattle.std.specs.List.{slice_get}
use Rattle.std.proofs.lemmas.Option.{slice_get_within}
use Rattle.std.proofs.lemmas.List.{take_at, drop_at, length-take-le}
use Rattle.store.specs.Puts.{applied, puts}
use Rattle.store.proofs.Puts.{applied-puts}
use Rattle.formats.specs.Layouts.{size}
use Rattle.operations.specs.Manual.{form_at, count}
use Rattle.instructions.specs.declared.fields.Fields.{Fields}
use Rattle.instructions.specs.Faults.{lawful, number_ok, reaches}
use Rattle.instructions.specs.Words.{word_of, halves, halfwords_of}
use Rattle.instructions.proofs.Sizes.{low_bits_tell}
use Rattle.reading.specs.Places.{with_high, begun, word_at}
use Rattle.aiming.specs.Standing.{instruction_of, reaching_only, jump_in, jump_at, at_distance}
use Rattle.aiming.proofs.Known.{known, only_known, some_same}
use Rattle.aiming.proofs.Lawfuls.{aimed_lawful, halfwords_by}
use Rattle.reading.proofs.Takes.{nth_take}
use Rattle.aiming.proofs.Places.{nth_part, nth_puts_apart}

-- ---- sizes

length-halves : (b : Bool) (w : ℕ) → length (halves (cond b 2 1) w) ≡ cond b 2 1
length-halves true w = refl
length-halves false w = refl

-- how many halfwords an instruction has depends on its operation alone
pub halfwords_length : (k : ℕ) (f : Fields) → k < count → length (halfwords_of k f) ≡ size (form_at k).kind
halfwords_length k f h =
    ap length (halfwords_by k f (word_of (form_at k) f) h refl)
    ∙ length-halves (eqb (word_of (form_at k) f % 4) 3) (word_of (form_at k) f)
    ∙ sym (low_bits_tell k f h)

-- ---- the word at a place: one halfword, or two

data Begins (xs : List ℕ) (p w : ℕ) : Type 0 where
  short : slice_get xs p ≡ Some w → eqb (w % 4) 3 ≡ false → Begins xs p w
  long : (x y : ℕ) → slice_get xs p ≡ Some x → slice_get xs (p + 1) ≡ Some y → eqb (x % 4) 3 ≡ true → y * 65536 + x ≡ w → Begins xs p w

some_is : (x w : ℕ) → ◌≡◌ {A = Option ℕ} (Some x) (Some w) → x ≡ w
some_is x w e = cc

begins : (xs : List ℕ) (p w : ℕ) → word_at xs p ≡ Some w → Begins xs p w
begins xs p w e = first (slice_get xs p) refl e
  where
    second : (x : ℕ) → slice_get xs p ≡ Some x → eqb (x % 4) 3 ≡ true → (o : Option ℕ) → slice_get xs (p + 1) ≡ o → with_high x o ≡ Some w → Begins xs p w
    second x q t None r e = cc
    second x q t (Some y) r e = long x y q r t (some_is (y * 65536 + x) w e)

    by : (x : ℕ) → slice_get xs p ≡ Some x → (b : Bool) → eqb (x % 4) 3 ≡ b → cond b (with_high x (slice_get xs (p + 1))) (Some x) ≡ Some w → Begins xs p w
    by x q true t e = second x q t (slice_get xs (p + 1)) refl e
    by x q false t e = let d = some_is x w e in short (q ∙ e) (ap (λ x. eqb (x % 4) 3) (sym d) ∙ t)

    first : (o : Option ℕ) → slice_get xs p ≡ o → begun o (slice_get xs (p + 1)) ≡ Some w → Begins xs p w
    first None q e = cc
    first (Some x) q e = by x q (eqb (x % 4) 3) refl e

begun_word : (xs : List ℕ) (p w : ℕ) → Begins xs p w → word_at xs p ≡ Some w
begun_word xs p w (short q t) =
    ap (λ o. begun o (slice_get xs (p + 1))) q ∙ ap (λ b. cond b (with_high w (slice_get xs (p + 1))) (Some w)) t
begun_word xs p w (long x y q r t e) =
    ap₂ begun q r ∙ ap (λ b. cond b (Some (y * 65536 + x)) (Some x)) t ∙ ap Some e

-- how many halfwords it has, by its low two bits
abbrev halfwords_inside : ℕ → ℕ
halfwords_inside w = cond (eqb (w % 4) 3) 2 1

low_same : (x y w : ℕ) → y * 65536 + x ≡ w → w % 4 ≡ x % 4
low_same x y w e = omega arith

long_size : (x y w : ℕ) → eqb (x % 4) 3 ≡ true → y * 65536 + x ≡ w → halfwords_inside w ≡ 2
long_size x y w t e = ap (λ n. cond (eqb n 3) 2 1) (low_same x y w e) ∙ ap (λ b. cond b 2 1) t

short_size : (w : ℕ) → eqb (w % 4) 3 ≡ false → halfwords_inside w ≡ 1
short_size w t = ap (λ b. cond b 2 1) t

begins_inside : (xs : List ℕ) (p w : ℕ) → Begins xs p w → p + halfwords_inside w ≤ length xs
begins_inside xs p w (short q t) = let h = slice_get_within xs p w q in omega (arith, short_size w t)
begins_inside xs p w (long x y q r t e) = let h = slice_get_within xs (p + 1) y r in omega (arith, long_size x y w t e)

begins_kept : (xs ys : List ℕ) (p w : ℕ) → ((i : ℕ) → i < halfwords_inside w → slice_get ys (p + i) ≡ slice_get xs (p + i)) → Begins xs p w → Begins ys p w
begins_kept xs ys p w a (short q t) =
    let z : slice_get ys p ≡ slice_get xs p = ap (slice_get ys) (sym (add-zero p)) ∙ a 0 (omega (arith, short_size w t)) ∙ ap (slice_get xs) (add-zero p) in
    short (z ∙ q) t
begins_kept xs ys p w a (long x y q r t e) =
    let z : slice_get ys p ≡ slice_get xs p = ap (slice_get ys) (sym (add-zero p)) ∙ a 0 (omega (arith, long_size x y w t e)) ∙ ap (slice_get xs) (add-zero p) in
    long x y (z ∙ q) (a 1 (omega (arith, long_size x y w t e)) ∙ r) t e

-- the word that its halfwords are
low_bits : (w : ℕ) → w % 65536 % 4 ≡ w % 4
low_bits w = omega arith

begins_halves : (b : Bool) (w : ℕ) (xs : List ℕ) (p : ℕ) → eqb (w % 4) 3 ≡ b → ((i : ℕ) → i < cond b 2 1 → slice_get xs (p + i) ≡ slice_get (halves (cond b 2 1) w) i) → Begins xs p w
begins_halves true w xs p e a =
    long (w % 65536) (w / 65536) (ap (slice_get xs) (sym (add-zero p)) ∙ a 0 (omega arith)) (a 1 (omega arith)) (ap (λ x. eqb x 3) (low_bits w) ∙ e) (div-add-mod' w 65536)
begins_halves false w xs p e a = short (ap (slice_get xs) (sym (add-zero p)) ∙ a 0 (omega arith)) e

-- ---- the jump at a place

-- a jump whose halfwords stand at the place, all of them used, is the jump there
pub jump_there : (k : ℕ) (f : Fields) (cells : List ℕ) (used p : ℕ) → k < count → lawful (form_at k) f ≡ true → reaches (form_at k).kind ≡ true → p + size (form_at k).kind ≤ used → take (size (form_at k).kind) (drop p cells) ≡ halfwords_of k f → jump_at cells used p ≡ Some (k, f)
jump_there k f cells used p h t j l e =
    let w = word_of (form_at k) f in
    let n : size (form_at k).kind ≡ halfwords_inside w = low_bits_tell k f h in
    ap jump_in (begun_word (take used cells) p w (begins_halves (eqb (w % 4) 3) w (take used cells) p refl (λ i b. let d : p + i < used = omega arith in nth_take used cells (p + i) d ∙ nth_part cells (halves (halfwords_inside w) w) p (halfwords_inside w) i (ap (λ n. take n (drop p cells)) (sym n) ∙ e ∙ halfwords_by k f w h refl) b)))
    ∙ ap reaching_only (known w k f h t refl)
    ∙ ap (λ b. cond b (Some (k, f)) None) j

-- the same, for a list in three parts
pub jump_amid : (k : ℕ) (f : Fields) (before after : List ℕ) (used : ℕ) → k < count → lawful (form_at k) f ≡ true → reaches (form_at k).kind ≡ true → length before + size (form_at k).kind ≤ used → jump_at (before ++ (halfwords_of k f ++ after)) used (length before) ≡ Some (k, f)
jump_amid k f before after used h t j l =
    jump_there k f (before ++ (halfwords_of k f ++ after)) used (length before) h t j l
    (ap (take (size (form_at k).kind)) (drop_at before (halfwords_of k f ++ after) (length before) refl) ∙ take_at (halfwords_of k f) after (size (form_at k).kind) (halfwords_length k f h))

-- what is known of a jump that is there
pub record JumpHere (cells : List ℕ) (used p k : ℕ) (f : Fields) : Type 0 where
  pub real : k < count
  pub ok : lawful (form_at k) f ≡ true
  pub jumps : reaches (form_at k).kind ≡ true
  pub word : word_at (take used cells) p ≡ Some (word_of (form_at k) f)
  pub inside : p + size (form_at k).kind ≤ used
  pub within : p + size (form_at k).kind ≤ length cells

reaching_is : (o : Option (ℕ × Fields)) (k : ℕ) (f : Fields) → reaching_only o ≡ Some (k, f) → (o ≡ Some (k, f)) × (reaches (form_at k).kind ≡ true)
reaching_is None k f e = cc
reaching_is (Some (j, g)) k f e = go (reaches (form_at j).kind) refl e
  where
    go : (b : Bool) → reaches (form_at j).kind ≡ b → cond {A = Option (ℕ × Fields)} b (Some (j, g)) None ≡ Some (k, f) → (◌≡◌ {A = Option (ℕ × Fields)} (Some (j, g)) (Some (k, f))) × (reaches (form_at k).kind ≡ true)
    go true t e = (e, ap (λ n. reaches (form_at n).kind) (sym (some_same e).0) ∙ t)
    go false t e = cc

pub jump_here : (cells : List ℕ) (used p k : ℕ) (f : Fields) → jump_at cells used p ≡ Some (k, f) → JumpHere cells used p k f
jump_here cells used p k f e = go (word_at (take used cells) p) refl e
  where
    go : (o : Option ℕ) → word_at (take used cells) p ≡ o → jump_in o ≡ Some (k, f) → JumpHere cells used p k f
    go None q e = cc
    go (Some w) q e =
        let r = reaching_is (instruction_of w) k f e in
        let i = only_known w k f r.0 in
        let n : size (form_at k).kind ≡ halfwords_inside w = low_bits_tell k f i.0 ∙ ap halfwords_inside i.1.word in
        let b = begins_inside (take used cells) p w (begins (take used cells) p w q) in
        record {
          real = i.0;
          ok = i.1.ok;
          jumps = r.1;
          word = q ∙ ap Some (sym i.1.word);
          inside = omega (arith, length-take used cells);
          within = omega (arith, length-take used cells);
        }

-- it depends on its own halfwords alone
pub jump_kept : (cells others : List ℕ) (used p k : ℕ) (f : Fields) → jump_at cells used p ≡ Some (k, f) → ((i : ℕ) → i < size (form_at k).kind → slice_get others (p + i) ≡ slice_get cells (p + i)) → jump_at others used p ≡ Some (k, f)
jump_kept cells others used p k f e a =
    let g = jump_here cells used p k f e in
    let w = word_of (form_at k) f in
    let n : size (form_at k).kind ≡ halfwords_inside w = low_bits_tell k f g.real in
    let s = g.inside in
    ap jump_in (begun_word (take used others) p w (begins_kept (take used cells) (take used others) p w (λ i b. let d : p + i < used = omega arith in nth_take used others (p + i) d ∙ a i (omega arith) ∙ sym (nth_take used cells (p + i) d)) (begins (take used cells) p w g.word)))
    ∙ ap jump_in (sym g.word) ∙ e

-- ---- after puts

-- halfwords put elsewhere leave it
pub jump_apart : (cells : List ℕ) (used p k : ℕ) (f : Fields) (q : ℕ) (hs : List ℕ) → jump_at cells used p ≡ Some (k, f) → (p + size (form_at k).kind ≤ q) ⊎ (q + length hs ≤ p) → jump_at (applied (puts q hs) cells) used p ≡ Some (k, f)
jump_apart cells used p k f q hs e (inl a) =
    jump_kept cells (applied (puts q hs) cells) used p k f e (λ i b. nth_puts_apart q hs cells (p + i) (inl (omega arith)))
jump_apart cells used p k f q hs e (inr a) =
    jump_kept cells (applied (puts q hs) cells) used p k f e (λ i b. nth_puts_apart q hs cells (p + i) (inr (omega arith)))

-- the halfwords of the same jump at another distance, put at its place, are that jump
pub jump_put : (cells : List ℕ) (used p k : ℕ) (f : Fields) (z : ℤ) → jump_at cells used p ≡ Some (k, f) → number_ok (form_at k).n z ≡ true → jump_at (applied (puts p (halfwords_of k (at_distance f z))) cells) used p ≡ Some (k, at_distance f z)
jump_put cells used p k f z e o =
    let g = jump_here cells used p k f e in
    let hs = halfwords_of k (at_distance f z) in
    let n : length hs ≡ size (form_at k).kind = halfwords_length k (at_distance f z) g.real in
    let s = g.within in
    let l : p + length hs ≤ length cells = omega arith in
    let m : length (take p cells) ≡ p = length-take-le p cells (omega arith) in
    jump_there k (at_distance f z) (applied (puts p hs) cells) used p g.real (aimed_lawful k f z g.real g.jumps g.ok o) g.jumps g.inside
    (ap (λ xs. take (size (form_at k).kind) (drop p xs)) (applied-puts p hs cells l ∙ append_assoc (take p cells) hs (drop (p + length hs) cells))
    ∙ ap (take (size (form_at k).kind)) (drop_at (take p cells) (hs ++ drop (p + length hs) cells) p m)
    ∙ take_at hs (drop (p + length hs) cells) (size (form_at k).kind) n)
