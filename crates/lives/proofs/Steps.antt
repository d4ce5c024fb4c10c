-- One call more of a life: open, inside a try, and which calls a state does not take. Assumes nothing.
use Rattle.std.proofs.Common.{◌≡◌, ℕ, ◌≤◌, ◌⊎◌, List, [], ◌∷◌, ◌++◌, map, length, take, ℤ, Ok, Err, sym, refl, ap, ◌∙◌, subst, inl, inr, take_all, Bor}
use Rattle.store.specs.Answers.{when}
use Rattle.store.specs.Puts.{applied}
use Rattle.records.specs.declared.counts.Counts.{Counts}
use Rattle.records.specs.declared.book.Book.{Book}
use Rattle.records.specs.Records.{none, jump_of, slot_of, labels_among}
use Rattle.changing.specs.declared.edits.Edit.{Edit}
use Rattle.lives.specs.declared.types.Deed.{Deed}
use Rattle.lives.specs.declared.types.Answer.{Answer}
use Rattle.lives.specs.declared.types.Answer.TheVariants.{Taken, Refused, OutOfState}
use Rattle.lives.specs.declared.types.Entry.{Entry}
use Rattle.lives.specs.declared.types.Call.{Call}
use Rattle.lives.specs.declared.types.Call.TheVariants.{Do, Try, Keep, GiveUp, Seal, Change, Value}
use Rattle.lives.specs.Deeds.{Verdict, told, answered, counts_by, book_by, puts_by}
use Rattle.lives.specs.Listing.{Listing, Mode, Stage, free, trying, closed, empty, judged, listed}
use Rattle.lives.specs.Life.{Run, made, then, Promise, EachNoted, Recorded, Lived}
use Rattle.lives.specs.Tied.{Tied, OpenAt, TryAt, SealedAt}
use Rattle.lives.proofs.Keeps.{due_is, deed_tied, deed_beyond, deed_before, deed_saved, deed_over, over_self, promised, bare}

-- a fact of three things, at three equal to them
pub at_equals : {A B C : Type 0} (P : A → B → C → Type 0) {a a₁ : A} {b b₁ : B} {c c₁ : C} → a₁ ≡ a → b₁ ≡ b → c₁ ≡ c → P a b c → P a₁ b₁ c₁
at_equals P {a} {a₁} {b} {b₁} {c} {c₁} ea eb ec p =
    subst (λ x. P x b₁ c₁) (sym ea) (subst (λ x. P a x c₁) (sym eb) (subst (λ x. P a b x) (sym ec) p))

abbrev pub entry : Call → Answer → Entry
entry c a = record { call = c; answer = a }

module _ {n : List ℕ} {es : List Entry} {c : Counts} {b : Book} {cells : List ℕ} where
  pub deed_open : OpenAt n es c b cells → (d : Deed) (r : Verdict) {c₁ : Counts} {b₁ : Book} {cells₁ : List ℕ} →
      r ≡ answered (length cells) c b d → c₁ ≡ when r (counts_by d c) c → b₁ ≡ when r (book_by d c b) b → cells₁ ≡ applied (when r (puts_by d c) []) cells →
      OpenAt n (es ++ (entry (Do d) (told r) ∷ [])) c₁ b₁ cells₁
  deed_open o d (Ok u) a₀ ec eb es₁ =
      let a : Ok u ≡ answered (length n) c b d = a₀ ∙ ap (λ k. answered k c b d) o.2.whole in
      let t₁ = deed_tied o.2 d u a in
      at_equals (λ x y z. OpenAt n (es ++ (entry (Do d) Taken ∷ [])) x y z) ec eb es₁
      (listed o.0 d, then o.1 (Do d) Taken (ap told (a ∙ due_is o.2 d)) (deed_beyond o.2 d u a) (deed_before o.2 d) (promised free t₁ tt), t₁)
  deed_open o d (Err e) a₀ ec eb es₁ =
      let a : Err e ≡ answered (length n) c b d = a₀ ∙ ap (λ k. answered k c b d) o.2.whole in
      at_equals (λ x y z. OpenAt n (es ++ (entry (Do d) (Refused e) ∷ [])) x y z) ec eb es₁
      (o.0, then o.1 (Do d) (Refused e) (ap told (a ∙ due_is o.2 d)) refl refl (promised free o.2 tt), o.2)

  pub deed_try : {saved : Counts} → TryAt n es c saved b cells → (d : Deed) (r : Verdict) {c₁ : Counts} {b₁ : Book} {cells₁ : List ℕ} →
      r ≡ answered (length cells) c b d → c₁ ≡ when r (counts_by d c) c → b₁ ≡ when r (book_by d c b) b → cells₁ ≡ applied (when r (puts_by d c) []) cells →
      TryAt n (es ++ (entry (Do d) (told r) ∷ [])) c₁ saved b₁ cells₁
  deed_try {saved} o d (Ok u) a₀ ec eb es₁ =
      let a : Ok u ≡ answered (length n) c b d = a₀ ∙ ap (λ k. answered k c b d) o.3.whole in
      let t₁ = deed_tied o.3 d u a in
      at_equals (λ x y z. TryAt n (es ++ (entry (Do d) Taken ∷ [])) x saved y z) ec eb es₁
      (listed o.0 d, o.1, then o.2 (Do d) Taken (ap told (a ∙ due_is o.3 d)) (deed_beyond o.3 d u a) (deed_before o.3 d) (promised (trying o.1) t₁ tt), t₁, deed_saved o.4 o.5 d, deed_over o.5 d)
  deed_try {saved} o d (Err e) a₀ ec eb es₁ =
      let a : Err e ≡ answered (length n) c b d = a₀ ∙ ap (λ k. answered k c b d) o.3.whole in
      at_equals (λ x y z. TryAt n (es ++ (entry (Do d) (Refused e) ∷ [])) x saved y z) ec eb es₁
      (o.0, o.1, then o.2 (Do d) (Refused e) (ap told (a ∙ due_is o.3 d)) refl refl (promised (trying o.1) o.3 tt), o.3, o.4, o.5)

  pub tries : OpenAt n es c b cells → TryAt n (es ++ (entry Try Taken ∷ [])) c c b cells
  tries o = (o.0, o.0, then o.1 Try Taken refl refl refl (promised (trying o.0) o.2 tt), o.2, o.2, over_self c)

  pub keeps : {saved c₁ : Counts} → TryAt n es c saved b cells → c₁ ≡ c → OpenAt n (es ++ (entry Keep Taken ∷ [])) c₁ b cells
  keeps o e = at_equals (λ x y z. OpenAt n (es ++ (entry Keep Taken ∷ [])) x y z) e refl refl (o.0, then o.2 Keep Taken refl refl refl (promised free o.3 tt), o.3)

  pub gives_up : {saved c₁ : Counts} → TryAt n es c saved b cells → c₁ ≡ saved → OpenAt n (es ++ (entry GiveUp Taken ∷ [])) c₁ b cells
  gives_up o e = at_equals (λ x y z. OpenAt n (es ++ (entry GiveUp Taken ∷ [])) x y z) e refl refl (o.1, then o.2 GiveUp Taken refl refl refl (promised free o.4 tt), o.4)

  -- a call that the state does not take
  pub out_open : OpenAt n es c b cells → (x : Call) → ((L : Listing) → judged (length n) (record { mode = free; listing = L }) x ≡ OutOfState) → OpenAt n (es ++ (entry x OutOfState ∷ [])) c b cells
  out_open o x q = (o.0, then o.1 x OutOfState (sym (q o.0)) refl refl (promised free o.2 tt), o.2)

  pub out_try : {saved c₁ : Counts} {b₁ : Book} {cells₁ : List ℕ} → TryAt n es c saved b cells → (x : Call) → ((L S : Listing) → judged (length n) (record { mode = trying S; listing = L }) x ≡ OutOfState) →
      c₁ ≡ c → b₁ ≡ b → cells₁ ≡ cells → TryAt n (es ++ (entry x OutOfState ∷ [])) c₁ saved b₁ cells₁
  out_try {saved} o x q ec eb ecs =
      at_equals (λ u v w. TryAt n (es ++ (entry x OutOfState ∷ [])) u saved v w) ec eb ecs (o.0, o.1, then o.2 x OutOfState (sym (q o.0 o.1)) refl refl (promised (trying o.1) o.3 tt), o.3, o.4, o.5)

-- ---- the calls that a state does not take

pub open_out : (x : Call) → (x ≡ Keep) ⊎ ((x ≡ GiveUp) ⊎ (((r : Bor (List Edit)) × (x ≡ Change r)) ⊎ ((k : ℤ) × (x ≡ Value k)))) → (n : ℕ) (L : Listing) → judged n (record { mode = free; listing = L }) x ≡ OutOfState
open_out x (inl e) n L = ap (judged n (record { mode = free; listing = L })) e
open_out x (inr (inl e)) n L = ap (judged n (record { mode = free; listing = L })) e
open_out x (inr (inr (inl e))) n L = ap (judged n (record { mode = free; listing = L })) e.1
open_out x (inr (inr (inr e))) n L = ap (judged n (record { mode = free; listing = L })) e.1

pub try_out : (x : Call) → (x ≡ Try) ⊎ ((x ≡ Seal) ⊎ (((r : Bor (List Edit)) × (x ≡ Change r)) ⊎ ((k : ℤ) × (x ≡ Value k)))) → (n : ℕ) (L S : Listing) → judged n (record { mode = trying S; listing = L }) x ≡ OutOfState
try_out x (inl e) n L S = ap (judged n (record { mode = trying S; listing = L })) e
try_out x (inr (inl e)) n L S = ap (judged n (record { mode = trying S; listing = L })) e
try_out x (inr (inr (inl e))) n L S = ap (judged n (record { mode = trying S; listing = L })) e.1
try_out x (inr (inr (inr e))) n L S = ap (judged n (record { mode = trying S; listing = L })) e.1

pub sealed_out : (x : Call) → ((d : Deed) × (x ≡ Do d)) ⊎ ((x ≡ Try) ⊎ ((x ≡ Keep) ⊎ ((x ≡ GiveUp) ⊎ (x ≡ Seal)))) → (n : ℕ) (L : Listing) → judged n (record { mode = closed; listing = L }) x ≡ OutOfState
sealed_out x (inl e) n L = ap (judged n (record { mode = closed; listing = L })) e.1
sealed_out x (inr (inl e)) n L = ap (judged n (record { mode = closed; listing = L })) e
sealed_out x (inr (inr (inl e))) n L = ap (judged n (record { mode = closed; listing = L })) e
sealed_out x (inr (inr (inr (inl e)))) n L = ap (judged n (record { mode = closed; listing = L })) e
sealed_out x (inr (inr (inr (inr e)))) n L = ap (judged n (record { mode = closed; listing = L })) e

-- ---- the making

-- an open program with nothing listed, whatever store and book hold
pub begun : {c : Counts} (b : Book) (cells : List ℕ) → c ≡ none → length b.labels ≡ 64 → length b.jumps ≡ 128 → length b.slots ≡ 32 → OpenAt cells [] c b cells
begun b cells e l j s =
    let t = bare b cells l j s in
    subst (λ x. OpenAt cells [] x b cells) (sym e) (empty, made (promised free t tt), t)

-- ---- where a list ends

whole_list : {n : List ℕ} (es : List Entry) (k : ℕ) {s : Stage} {cells : List ℕ} → length es ≤ k → Run n (take k es) s cells → Run n es s cells
whole_list {n} es k {s} {cells} h r = subst (λ x. Run n x s cells) (take_all k es h) r

-- a tie's records are the listing's
recorded : {P : ℕ × ℕ → ℤ → Type 0} {n : ℕ} {L : Listing} {c : Counts} {b : Book} {cells : List ℕ} → (m : Mode) → Tied P n L c b cells → EachNoted m L b → Recorded (record { mode = m; listing = L }) b
recorded {P} {n} {L} {c} {b} m t d =
    record {
      labels = ap (λ k. labels_among k b) (sym t.nlabels) ∙ t.labels;
      jumps = ap (λ k. map jump_of (take k b.jumps)) (sym t.njumps) ∙ t.jumps;
      slots = ap (λ k. map slot_of (take k b.slots)) (sym t.nslots) ∙ t.slots;
      distances = d;
    }

pub open_ended : {n : List ℕ} (es : List Entry) (k : ℕ) {c : Counts} {b : Book} {cells : List ℕ} → length es ≤ k → OpenAt n (take k es) c b cells → Lived n es b cells c.used
open_ended es k h o = (record { mode = free; listing = o.0 }, whole_list es k h o.1, promised free o.2 tt, recorded free o.2 tt, o.2.used, o.2.whole)

pub try_ended : {n : List ℕ} (es : List Entry) (k : ℕ) {c saved : Counts} {b : Book} {cells : List ℕ} → length es ≤ k → TryAt n (take k es) c saved b cells → Lived n es b cells saved.used
try_ended es k h o = (record { mode = trying o.1; listing = o.0 }, whole_list es k h o.2, promised free o.4 tt, recorded free o.4 tt, o.4.used, o.4.whole)

-- the promise of the stage that is reached
last_promise : {n : List ℕ} {es : List Entry} {s : Stage} {cells : List ℕ} → Run n es s cells → Promise s cells
last_promise (made p) = p
last_promise (then r c a e d x p) = p

pub sealed_ended : {n : List ℕ} (es : List Entry) (k : ℕ) {c : Counts} {b : Book} {cells : List ℕ} → length es ≤ k → SealedAt n (take k es) c b cells → Lived n es b cells c.used
sealed_ended es k h o = (record { mode = closed; listing = o.0 }, whole_list es k h o.1, last_promise o.1, recorded closed o.2 o.3, o.2.used, o.2.whole)
