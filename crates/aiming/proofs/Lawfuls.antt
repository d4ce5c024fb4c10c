-- A jump at another distance is lawful, and its halfwords.
use Rattle.std.proofs.Common.{◌≡◌, ℕ, ◌%◌, ◌<◌, Bool, true, false, cond, eqb, List, take, ℤ, pos, negsuc, Some, None, Option, sym, refl, ap, ◌∙◌, subst, arith}
use Rattle.std.proofs.lemmas.Bool.Decides.{nat_tests}
use Rattle.bits.specs.declared.part.Field.TheVariants.{N}
use Rattle.bits.specs.Layout.{span}
use Rattle.formats.specs.Layouts.{layout}
use Rattle.operations.specs.declared.row.Allowed.TheVariants.{All}
use Rattle.operations.specs.declared.row.Number.TheVariants.{Signed}
use Rattle.operations.specs.Manual.{form_at, count}
use Rattle.instructions.specs.declared.fields.Fields.{Fields}
use Rattle.instructions.specs.declared.instruction.Instruction.{Instruction}
use Rattle.instructions.specs.Faults.{lawful, number_ok, reaches}
use Rattle.instructions.specs.Laws.{InRange, TakesNumber}
use Rattle.instructions.specs.Words.{word_of, halves, halfwords_of}
use Rattle.instructions.proofs.Lawfuls.{lawful_exactly}
use Rattle.instructions.proofs.Sizes.{low_bits_tell, one_small}
use Rattle.reading.specs.Places.{word_at}
use Rattle.aiming.specs.Standing.{instruction_of, reaching_only, jump_in, jump_at, at_distance, aimed, worded}
use Rattle.aiming.proofs.Distances.{jump_number}

distance_in : (k : ℕ) (z : ℤ) → number_ok (Some (Signed k 2 All)) z ≡ true → InRange (Some (Signed k 2 All)) z
distance_in k (pos n) t = (grind (arith, nat_tests), grind (arith, nat_tests))
distance_in k (negsuc n) t = (grind (arith, nat_tests), grind (arith, nat_tests))

pub aimed_lawful : (k : ℕ) (f : Fields) (z : ℤ) → k < count → reaches (form_at k).kind ≡ true → lawful (form_at k) f ≡ true → number_ok (form_at k).n z ≡ true → lawful (form_at k) (at_distance f z) ≡ true
aimed_lawful k f z h j t o =
    let r = form_at k in
    let l = (lawful_exactly r f).0 t in
    let s = span (layout r.kind) N in
    let n = jump_number k h j in
    (lawful_exactly r (at_distance f z)).1
    (record {
      d_in = l.d_in;
      a_in = l.a_in;
      b_in = l.b_in;
      n_in = subst (λ c. number_ok c z ≡ true → InRange c z) (sym n) (distance_in s z) o;
      m_in = l.m_in;
      d_takes = l.d_takes;
      a_takes = l.a_takes;
      b_takes = l.b_takes;
      n_takes = subst (λ c. TakesNumber c z) (sym n) tt;
      d_not_b = l.d_not_b;
      d_not_a = l.d_not_a;
      d_not_v0 = l.d_not_v0;
    })

-- an instruction, by its operation's place and its lawful fields
pub instruction : (k : ℕ) (f : Fields) → k < count → lawful (form_at k) f ≡ true → Instruction
instruction k f h t = record { op = record { place = k; real = h }; fields = f; ok = t }

-- a word of one halfword is below 65536
pub word_small : (k : ℕ) (f : Fields) (w : ℕ) → k < count → lawful (form_at k) f ≡ true → word_of (form_at k) f ≡ w → (w % 4 ≡ 3 → ⊥) → w < 65536
unfolding instruction
word_small k f w h t e n = one_small (instruction k f h t) w (sym e) n

-- its halfwords, by the word alone
pub halfwords_by : (k : ℕ) (f : Fields) (w : ℕ) → k < count → word_of (form_at k) f ≡ w → halfwords_of k f ≡ halves (cond (eqb (w % 4) 3) 2 1) w
halfwords_by k f w h e =
    ap (λ n. halves n (word_of (form_at k) f)) (low_bits_tell k f h) ∙ ap (λ x. halves (cond (eqb (x % 4) 3) 2 1) x) e

-- ---- a word that was answered for another distance

pub record Aimed (k : ℕ) (f : Fields) (z : ℤ) (w : ℕ) : Type 0 where
  pub ok : lawful (form_at k) (at_distance f z) ≡ true
  pub word : word_of (form_at k) (at_distance f z) ≡ w
  pub is : aimed (reaching_only (Some (k, f))) z ≡ Some (k, at_distance f z)

some_is : (w x : ℕ) → ◌≡◌ {A = Option ℕ} (Some w) (Some x) → x ≡ w
some_is w x e = cc

pub aimed_some : (k : ℕ) (f : Fields) (z : ℤ) (w : ℕ) → k < count → lawful (form_at k) f ≡ true → Some w ≡ worded (aimed (reaching_only (Some (k, f))) z) → Aimed k f z w
aimed_some k f z w h t e = go (reaches (form_at k).kind) (number_ok (form_at k).n z) refl refl e
  where
    go : (b c : Bool) → reaches (form_at k).kind ≡ b → number_ok (form_at k).n z ≡ c → Some w ≡ worded (aimed (cond b (Some (k, f)) None) z) → Aimed k f z w
    go false c p q e = cc
    go true false p q e = let none : ◌≡◌ {A = Option ℕ} (Some w) None = e ∙ ap (λ c. worded (cond c (Some (k, at_distance f z)) None)) q in cc
    go true true p q e =
        record {
          ok = aimed_lawful k f z h p t q;
          word = some_is w (word_of (form_at k) (at_distance f z)) (e ∙ ap (λ c. worded (cond c (Some (k, at_distance f z)) None)) q);
          is = ap (λ b. aimed (cond b (Some (k, f)) None) z) p ∙ ap (λ c. cond c (Some (k, at_distance f z)) None) q;
        }

-- a jump is a jump
pub reaching_once : (o : Option (ℕ × Fields)) → reaching_only (reaching_only o) ≡ reaching_only o
reaching_once None = refl
reaching_once (Some i) = go (reaches (form_at i.0).kind) refl
  where
    go : (b : Bool) → reaches (form_at i.0).kind ≡ b → reaching_only (cond b (Some i) None) ≡ cond b (Some i) None
    go true e = ap (λ b. cond b (Some i) None) e
    go false e = refl

pub jump_once : (cells : List ℕ) (used p : ℕ) → reaching_only (jump_at cells used p) ≡ jump_at cells used p
jump_once cells used p = go (word_at (take used cells) p)
  where
    go : (o : Option ℕ) → reaching_only (jump_in o) ≡ jump_in o
    go None = refl
    go (Some w) = reaching_once (instruction_of w)
