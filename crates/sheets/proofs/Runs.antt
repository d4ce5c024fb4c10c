-- What a run of calls answers, and the stage that it reaches.
use Rattle.std.proofs.Common.{◌≡◌, ℕ, List, [], ◌∷◌, ◌++◌, map, length, sym, refl, ap, ap₂, ◌∙◌, subst}
use Rattle.std.proofs.lemmas.List.{map-append}
use Rattle.lives.specs.declared.types.Call.{Call}
use Rattle.lives.specs.declared.types.Entry.{Entry}
use Rattle.lives.specs.Listing.{Stage, start, judged, moved}
use Rattle.lives.specs.Life.{Promise, Run, made, then, call_of}
use Rattle.sheets.specs.Entries.{answer_of, answers, reached, Holds}

module _ (size : ℕ) where
  answers-append : (s : Stage) (cs : List Call) (c : Call) → answers size s (cs ++ (c ∷ [])) ≡ answers size s cs ++ (judged size (reached size s cs) c ∷ [])
  answers-append s [] c = refl
  answers-append s (x ∷ cs) c = ap (λ rest. judged size s x ∷ rest) (answers-append (moved s x (judged size s x)) cs c)

  reached-append : (s : Stage) (cs : List Call) (c : Call) → reached size s (cs ++ (c ∷ [])) ≡ moved (reached size s cs) c (judged size (reached size s cs) c)
  reached-append s [] c = refl
  reached-append s (x ∷ cs) c = reached-append (moved s x (judged size s x)) cs c

-- each call has the answer that the listing of the history before it names, and its promise holds
pub record Judged (n : ℕ) (es : List Entry) (s : Stage) (cells : List ℕ) : Type 0 where
  pub told : map answer_of es ≡ answers n start (map call_of es)
  pub stage : s ≡ reached n start (map call_of es)
  pub promise : Promise s cells

pub judged_run : {first : List ℕ} {es : List Entry} {s : Stage} {cells : List ℕ} → Run first es s cells → Judged (length first) es s cells
judged_run {first} (made p) = record { told = refl; stage = refl; promise = p }
judged_run {first} (then {es} {s} {before} {after} q c a j d al p) =
    let n = length first in
    let i = judged_run q in
    let cs = map call_of es in
    let e : Entry = record { call = c; answer = a } in
    let k : a ≡ judged n (reached n start cs) c = j ∙ ap (λ t. judged n t c) i.stage in
    let calls : map call_of (es ++ (e ∷ [])) ≡ cs ++ (c ∷ []) = map-append call_of es (e ∷ []) in
    record {
      told = map-append answer_of es (e ∷ []) ∙ ap₂ (λ x y. x ++ (y ∷ [])) i.told k ∙ sym (answers-append n start cs c) ∙ ap (answers n start) (sym calls);
      stage = ap₂ (λ t b. moved t c b) i.stage k ∙ sym (reached-append n start cs c) ∙ ap (reached n start) (sym calls);
      promise = p;
    }

pub run_holds : (n : ℕ) (cs : List Call) (es : List Entry) (s : Stage) (cells : List ℕ) → Judged n es s cells → map call_of es ≡ cs → Holds (reached n start cs) cells
run_holds n cs es s cells j e =
    subst (λ t. Holds t cells) (j.stage ∙ ap (reached n start) e)
    (record { words = j.promise.code; lawful = j.promise.lawful })
