-- The calls of a life with their answers determine its stage and what the store holds. Assumes nothing.
use Rattle.std.proofs.Common.{◌≡◌, ℕ, ◌⊎◌, List, [], ◌∷◌, ◌++◌, length, get_or, take, drop, sym, refl, ap, ap₂, ◌∙◌, subst, inl, inr, arith}
use Rattle.std.proofs.lemmas.List.{take-append-drop, take_at, length_push, get_or_push}
use Rattle.items.specs.Items.{halfs}
use Rattle.lives.specs.declared.types.Call.{Call}
use Rattle.lives.specs.declared.types.Answer.{Answer}
use Rattle.lives.specs.declared.types.Entry.{Entry}
use Rattle.lives.specs.Listing.{Stage, start, end, moved}
use Rattle.lives.specs.Life.{Run, made, then, RunsDetermine}
use Rattle.lives.proofs.Steps.{entry}

-- the last call of a life, and what came before it
record Ended (first : List ℕ) (es : List Entry) (s : Stage) (cells : List ℕ) : Type 0 where
  front : List Entry
  stage : Stage
  before : List ℕ
  run : Run first front stage before
  call : Call
  answer : Answer
  entries : es ≡ front ++ (entry call answer ∷ [])
  stage_is : s ≡ moved stage call answer
  beyond : drop (end s.listing) cells ≡ drop (end s.listing) before
  code : take (end s.listing) cells ≡ halfs s.listing.code

record Begun (first : List ℕ) (es : List Entry) (s : Stage) (cells : List ℕ) : Type 0 where
  entries : es ≡ []
  stage_is : s ≡ start
  cells_is : cells ≡ first

parts : {first : List ℕ} {es : List Entry} {s : Stage} {cells : List ℕ} → Run first es s cells → Begun first es s cells ⊎ Ended first es s cells
parts (made p) = inl (record { entries = refl; stage_is = refl; cells_is = refl })
parts {first} (then {es} {s} {before} {after} r c a j d al p) =
    inr (record {
      front = es;
      stage = s;
      before = before;
      run = r;
      call = c;
      answer = a;
      entries = refl;
      stage_is = refl;
      beyond = d;
      code = p.code;
    })

-- what a store holds, by its front and its rest
whole : (k : ℕ) (xs ys hs zs : List ℕ) → take k xs ≡ hs → drop k xs ≡ zs → take k ys ≡ hs → drop k ys ≡ zs → xs ≡ ys
whole k xs ys hs zs a b c d = sym (take-append-drop k xs) ∙ ap₂ (λ (u v : List ℕ). u ++ v) (a ∙ sym c) (b ∙ sym d) ∙ take-append-drop k ys

-- ---- lists with one more at the end

same_count : (es fs : List Entry) (x y : Entry) → es ++ (x ∷ []) ≡ fs ++ (y ∷ []) → length es ≡ length fs
same_count es fs x y e =
    let a = ap length e in
    let b = length_push es x in
    let c = length_push fs y in
    omega arith

same_front : (es fs : List Entry) (x y : Entry) → es ++ (x ∷ []) ≡ fs ++ (y ∷ []) → es ≡ fs
same_front es fs x y e =
    let n = same_count es fs x y e in
    sym (take_at es (x ∷ []) (length es) refl) ∙ ap (take (length es)) e ∙ take_at fs (y ∷ []) (length es) (sym n)

same_last : (es fs : List Entry) (x y : Entry) → es ++ (x ∷ []) ≡ fs ++ (y ∷ []) → x ≡ y
same_last es fs x y e =
    let n = same_count es fs x y e in
    sym (get_or_push es x x (length es) refl) ∙ ap (λ (zs : List Entry). get_or zs (length es) x) e ∙ get_or_push fs y x (length es) (sym n)

no_end : (es : List Entry) (x : Entry) → es ++ (x ∷ []) ≡ [] → ⊥
no_end es x e = let a = ap length e in let b = length_push es x in omega arith

-- ---- two runs of the same entries

abbrev Same : Stage → Stage → List ℕ → List ℕ → Type 0
Same s t cells cells₁ = (s ≡ t) × (cells ≡ cells₁)

determined : {first : List ℕ} {es : List Entry} {s : Stage} {cells : List ℕ} → Run first es s cells → (fs : List Entry) (t : Stage) (cells₁ : List ℕ) → es ≡ fs → Run first fs t cells₁ → Same s t cells cells₁
determined {first} (made p) fs t cells₁ e r =
    elim (parts r) [
      | inl b ↦ (sym b.stage_is, sym b.cells_is)
      | inr d ↦ absurd (no_end d.front (entry d.call d.answer) (sym d.entries ∙ sym e))
    ]
determined {first} (then {es} {s} {before} {after} q c a j d al p) fs t cells₁ e r =
    elim (parts r) [
      | inl b ↦ absurd (no_end es (entry c a) (e ∙ b.entries))
      | inr x ↦ (
          let same = e ∙ x.entries in
          let last = same_last es x.front (entry c a) (entry x.call x.answer) same in
          let ec : c ≡ x.call = ap (λ (z : Entry). z.call) last in
          let ea : a ≡ x.answer = ap (λ (z : Entry). z.answer) last in
          let i = determined q x.front x.stage x.before (same_front es x.front (entry c a) (entry x.call x.answer) same) x.run in
          let es₁ : moved s c a ≡ t = ap (λ z. moved z c a) i.0 ∙ ap₂ (λ (u : Call) (v : Answer). moved x.stage u v) ec ea ∙ sym x.stage_is in
          let k = end t.listing in (
            es₁,
            whole k after cells₁ (halfs t.listing.code) (drop k before)
                (subst (λ (z : Stage). take (end z.listing) after ≡ halfs z.listing.code) es₁ p.code)
                (subst (λ (z : Stage). drop (end z.listing) after ≡ drop (end z.listing) before) es₁ d)
                x.code
                (x.beyond ∙ ap (drop k) (sym i.1)),
          )
          )
    ]

pub runs_determine : RunsDetermine
runs_determine first es s t cells cells₁ q r = determined q es t cells₁ refl r
