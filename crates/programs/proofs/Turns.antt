-- A list of calls answered in order: one entry more. Assumes nothing.
use Rattle.std.proofs.Common.{◌≡◌, ℕ, ◌+◌, ◌<◌, ◌≤◌, ◌⊎◌, List, [], ◌∷◌, ◌++◌, map, length, get_or, take, set, ℤ, Ok, Err, Result, sym, refl, ap, ◌∙◌, subst, Bor}
use Rattle.std.proofs.lemmas.List.{take_more_set, map-set, get_or-map, set-get_or, get_or_default}
use Rattle.store.specs.Answers.{when}
use Rattle.store.specs.Puts.{applied}
use Rattle.records.specs.declared.counts.Counts.{Counts}
use Rattle.records.specs.declared.book.Book.{Book}
use Rattle.records.specs.Records.{none, labels_in, jumps_in}
use Rattle.sealing.specs.declared.faults.SealFault.{SealFault}
use Rattle.sealing.specs.Sealing.{tested, laid, settled_book}
use Rattle.sealing.specs.Sealing as seals
use Rattle.changing.specs.declared.edits.Edit.{Edit}
use Rattle.lives.specs.declared.types.Deed.{Deed}
use Rattle.lives.specs.declared.types.Answer.{Answer}
use Rattle.lives.specs.declared.types.Answer.TheVariants.{Taken, Refused, OutOfState}
use Rattle.lives.specs.declared.types.Entry.{Entry}
use Rattle.lives.specs.declared.types.Call.{Call}
use Rattle.lives.specs.declared.types.Call.TheVariants.{Do, Try, Keep, GiveUp, Seal, Change, Value}
use Rattle.lives.specs.declared.types.Fault.TheVariants as fault
use Rattle.lives.specs.Deeds.{Verdict, told, answered, counts_by, book_by, puts_by, answered_sealed, cells_sealed}
use Rattle.lives.specs.Life.{Lived, RunsDetermine, call_of}
use Rattle.lives.specs.Tied.{OpenAt, TryAt, SealedAt, OpenLife, TryLife, SealedLife}
use Rattle.lives.proofs.Steps.{entry, open_ended, try_ended, sealed_ended, deed_open, deed_try, tries, keeps, gives_up, out_open, out_try, open_out, try_out, begun}
use Rattle.lives.proofs.Settling.{seal_taken, seal_refused}
use Rattle.lives.proofs.Changing.{sealed_step}
use Rattle.lives.proofs.Determined.{runs_determine}
use Rattle.programs.specs.declared.open.Open.{Open}
use Rattle.programs.specs.declared.sealed.Sealed.{Sealed}
use Rattle.programs.specs.Handing.{handed}

-- an entry with its answer, its call as it was
abbrev pub answering : List Entry → ℕ → Entry → Answer → Entry
answering es k d a = record { call = (get_or es k d).call; answer = a }

-- the calls stay as they were
pub calls_kept : (es : List Entry) (k : ℕ) (d : Entry) (a : Answer) → k < length es → map call_of (set es k (answering es k d a)) ≡ map call_of es
calls_kept es k d a h =
    map-set call_of es k (answering es k d a) ∙ ap (λ x. set (map call_of es) k x) (sym (get_or-map call_of es k d d.call h)) ∙ set-get_or (map call_of es) k d.call

-- one entry more
module _ (es : List Entry) (k : ℕ) (d x : Entry) (a : Answer) (h : k < length es) (is : x ≡ get_or es k x) where
  turn : (P : List Entry → Type 0) (y : Call) → x.call ≡ y → P (take k es ++ (entry y a ∷ [])) → P (take (k + 1) (set es k (answering es k d a)))
  turn P y e p =
      subst P (sym (take_more_set es k (answering es k d a) h))
      (subst (λ z. P (take k es ++ (entry z a ∷ []))) (sym e ∙ ap (λ (z : Entry). z.call) (is ∙ get_or_default es k x d h)) p)

pub sealed_turn : (first : List ℕ) (es : List Entry) (k : ℕ) (d x : Entry) (a : Answer) (c : Counts) (b : Book) (cells cells₁ : List ℕ) → k < length es → x ≡ get_or es k x → SealedLife first (take k es) c b cells →
    a ≡ answered_sealed cells c b x.call → cells₁ ≡ cells_sealed cells c b x.call → SealedLife first (take (k + 1) (set es k (answering es k d a))) c b cells₁
unfolding SealedLife
sealed_turn first es k d x a c b cells cells₁ h is o ea ec =
    turn es k d x a h is (λ ks. SealedAt first ks c b cells₁) x.call refl
    (subst (λ z. SealedAt first (take k es ++ (entry x.call a ∷ [])) c b z) (sym ec)
    (subst (λ z. SealedAt first (take k es ++ (entry x.call z ∷ [])) c b (cells_sealed cells c b x.call)) (sym ea) (sealed_step o x.call)))

pub sealed_ends : (first : List ℕ) (es : List Entry) (k : ℕ) (c : Counts) (b : Book) (cells : List ℕ) → length es ≤ k → SealedLife first (take k es) c b cells → Lived first es b cells c.used
unfolding SealedLife
sealed_ends first es k c b cells h o = sealed_ended es k h o

-- ---- an open program

-- the calls that it takes, and those that it does not
abbrev pub OpenOut : Call → Type 0
OpenOut x = (x ≡ Keep) ⊎ ((x ≡ GiveUp) ⊎ (((r : Bor (List Edit)) × (x ≡ Change r)) ⊎ ((k : ℤ) × (x ≡ Value k))))

abbrev pub TryOut : Call → Type 0
TryOut x = (x ≡ Try) ⊎ ((x ≡ Seal) ⊎ (((r : Bor (List Edit)) × (x ≡ Change r)) ⊎ ((k : ℤ) × (x ≡ Value k))))

pub begins : (c : Counts) (b : Book) (cells : List ℕ) → c ≡ none → length b.labels ≡ 64 → length b.jumps ≡ 128 → length b.slots ≡ 32 → OpenLife cells [] c b cells
unfolding OpenLife
begins c b cells e l j s = begun b cells e l j s

pub deed_turn : (first : List ℕ) (es : List Entry) (k : ℕ) (d x : Entry) (a : Answer) (deed : Deed) (r : Verdict) (c c₁ : Counts) (b b₁ : Book) (cells cells₁ : List ℕ) → k < length es → x ≡ get_or es k x → x.call ≡ Do deed →
    OpenLife first (take k es) c b cells → r ≡ answered (length cells) c b deed → c₁ ≡ when r (counts_by deed c) c → b₁ ≡ when r (book_by deed c b) b → cells₁ ≡ applied (when r (puts_by deed c) []) cells → a ≡ told r →
    OpenLife first (take (k + 1) (set es k (answering es k d a))) c₁ b₁ cells₁
unfolding OpenLife
deed_turn first es k d x a deed r c c₁ b b₁ cells cells₁ h is e o er ec eb ecs ea =
    turn es k d x a h is (λ ks. OpenAt first ks c₁ b₁ cells₁) (Do deed) e
    (subst (λ z. OpenAt first (take k es ++ (entry (Do deed) z ∷ [])) c₁ b₁ cells₁) (sym ea) (deed_open o deed r er ec eb ecs))

pub out_turn : (first : List ℕ) (es : List Entry) (k : ℕ) (d x : Entry) (c : Counts) (b : Book) (cells : List ℕ) → k < length es → x ≡ get_or es k x → OpenOut x.call → OpenLife first (take k es) c b cells →
    OpenLife first (take (k + 1) (set es k (answering es k d OutOfState))) c b cells
unfolding OpenLife
out_turn first es k d x c b cells h is e o =
    turn es k d x OutOfState h is (λ ks. OpenAt first ks c b cells) x.call refl (out_open o x.call (open_out x.call e (length first)))

pub open_ends : (first : List ℕ) (es : List Entry) (k : ℕ) (c : Counts) (b : Book) (cells : List ℕ) → length es ≤ k → OpenLife first (take k es) c b cells → Lived first es b cells c.used
unfolding OpenLife
open_ends first es k c b cells h o = open_ended es k h o

-- ---- a try

pub tries_turn : (first : List ℕ) (es : List Entry) (k : ℕ) (d x : Entry) (c : Counts) (b : Book) (cells : List ℕ) → k < length es → x ≡ get_or es k x → x.call ≡ Try → OpenLife first (take k es) c b cells →
    TryLife first (take (k + 1) (set es k (answering es k d Taken))) c c b cells
unfolding OpenLife TryLife
tries_turn first es k d x c b cells h is e o = turn es k d x Taken h is (λ ks. TryAt first ks c c b cells) Try e (tries o)

pub try_turn : (first : List ℕ) (es : List Entry) (k : ℕ) (d x : Entry) (a : Answer) (deed : Deed) (r : Verdict) (saved c c₁ : Counts) (b b₁ : Book) (cells cells₁ : List ℕ) → k < length es → x ≡ get_or es k x → x.call ≡ Do deed →
    TryLife first (take k es) c saved b cells → r ≡ answered (length cells) c b deed → c₁ ≡ when r (counts_by deed c) c → b₁ ≡ when r (book_by deed c b) b → cells₁ ≡ applied (when r (puts_by deed c) []) cells → a ≡ told r →
    TryLife first (take (k + 1) (set es k (answering es k d a))) c₁ saved b₁ cells₁
unfolding TryLife
try_turn first es k d x a deed r saved c c₁ b b₁ cells cells₁ h is e o er ec eb ecs ea =
    turn es k d x a h is (λ ks. TryAt first ks c₁ saved b₁ cells₁) (Do deed) e
    (subst (λ z. TryAt first (take k es ++ (entry (Do deed) z ∷ [])) c₁ saved b₁ cells₁) (sym ea) (deed_try o deed r er ec eb ecs))

pub try_out_turn : (first : List ℕ) (es : List Entry) (k : ℕ) (d x : Entry) (saved c : Counts) (b : Book) (cells : List ℕ) → k < length es → x ≡ get_or es k x → TryOut x.call → TryLife first (take k es) c saved b cells →
    TryLife first (take (k + 1) (set es k (answering es k d OutOfState))) c saved b cells
unfolding TryLife
try_out_turn first es k d x saved c b cells h is e o =
    turn es k d x OutOfState h is (λ ks. TryAt first ks c saved b cells) x.call refl (out_try o x.call (try_out x.call e (length first)) refl refl refl)

pub keep_turn : (first : List ℕ) (es : List Entry) (k : ℕ) (d x : Entry) (saved c c₁ : Counts) (b : Book) (cells : List ℕ) → k < length es → x ≡ get_or es k x → x.call ≡ Keep → TryLife first (take k es) c saved b cells → c₁ ≡ c →
    OpenLife first (take (k + 1) (set es k (answering es k d Taken))) c₁ b cells
unfolding OpenLife TryLife
keep_turn first es k d x saved c c₁ b cells h is e o ec = turn es k d x Taken h is (λ ks. OpenAt first ks c₁ b cells) Keep e (keeps o ec)

pub give_up_turn : (first : List ℕ) (es : List Entry) (k : ℕ) (d x : Entry) (saved c c₁ : Counts) (b : Book) (cells : List ℕ) → k < length es → x ≡ get_or es k x → x.call ≡ GiveUp → TryLife first (take k es) c saved b cells → c₁ ≡ saved →
    OpenLife first (take (k + 1) (set es k (answering es k d Taken))) c₁ b cells
unfolding OpenLife TryLife
give_up_turn first es k d x saved c c₁ b cells h is e o ec = turn es k d x Taken h is (λ ks. OpenAt first ks c₁ b cells) GiveUp e (gives_up o ec)

pub try_ends : (first : List ℕ) (es : List Entry) (k : ℕ) (saved c c₁ : Counts) (b : Book) (cells : List ℕ) → length es ≤ k → TryLife first (take k es) c saved b cells → c₁ ≡ saved → Lived first es b cells c₁.used
unfolding TryLife
try_ends first es k saved c c₁ b cells h o e = subst (λ (x : Counts). Lived first es b cells x.used) (sym e) (try_ended es k h o)

-- ---- a seal

seal_ok : (c : Counts) (v : seals.Verdict) (r : Result Sealed (Open × SealFault)) (s : Sealed) → r ≡ handed c v → r ≡ Ok s → (Ok tt ≡ v) × (s.counts ≡ c)
seal_ok c (Ok tt) r s e is = let f : Ok (record { counts = c }) ≡ Ok s = sym e ∙ is in let w : record { counts = c } ≡ s = cc in (refl, ap (λ (x : Sealed). x.counts) (sym w))
seal_ok c (Err y) r s e is = cc

seal_err : (c : Counts) (v : seals.Verdict) (r : Result Sealed (Open × SealFault)) (p : Open) (f : SealFault) → r ≡ handed c v → r ≡ Err (p, f) → (Err f ≡ v) × (p.counts ≡ c)
seal_err c (Ok tt) r p f e is = cc
seal_err c (Err y) r p f e is =
    let g : Err (record { counts = c }, y) ≡ Err (p, f) = sym e ∙ is in
    let w : (record { counts = c }, y) ≡ (p, f) = cc in
    (ap (λ (x : Open × SealFault). Err x.1) (sym w), ap (λ (x : Open × SealFault). x.0.counts) (sym w))

pub seal_turn : (first : List ℕ) (es : List Entry) (k : ℕ) (d x : Entry) (c : Counts) (b b₁ : Book) (cells cells₁ : List ℕ) (r : Result Sealed (Open × SealFault)) (s : Sealed) → k < length es → x ≡ get_or es k x → x.call ≡ Seal →
    OpenLife first (take k es) c b cells → r ≡ handed c (tested cells c.used (labels_in c b) (jumps_in c b)) → r ≡ Ok s → b₁ ≡ when r (settled_book c b) b → cells₁ ≡ when r (laid (labels_in c b) c.used (jumps_in c b) cells) cells →
    SealedLife first (take (k + 1) (set es k (answering es k d Taken))) s.counts b₁ cells₁
unfolding OpenLife SealedLife
seal_turn first es k d x c b b₁ cells cells₁ r s h is e o er ok eb ec =
    let v = tested cells c.used (labels_in c b) (jumps_in c b) in
    let w = seal_ok c v r s er ok in
    turn es k d x Taken h is (λ ks. SealedAt first ks s.counts b₁ cells₁) Seal e
    (seal_taken o tt w.0 w.1 (eb ∙ ap (λ y. when y (settled_book c b) b) ok) (ec ∙ ap (λ y. when y (laid (labels_in c b) c.used (jumps_in c b) cells) cells) ok))

pub seal_refused_turn : (first : List ℕ) (es : List Entry) (k : ℕ) (d x : Entry) (c : Counts) (b b₁ : Book) (cells cells₁ : List ℕ) (r : Result Sealed (Open × SealFault)) (p : Open) (f : SealFault) → k < length es → x ≡ get_or es k x → x.call ≡ Seal →
    OpenLife first (take k es) c b cells → r ≡ handed c (tested cells c.used (labels_in c b) (jumps_in c b)) → r ≡ Err (p, f) → b₁ ≡ when r (settled_book c b) b → cells₁ ≡ when r (laid (labels_in c b) c.used (jumps_in c b) cells) cells →
    OpenLife first (take (k + 1) (set es k (answering es k d (Refused (fault.Seal f))))) p.counts b₁ cells₁
unfolding OpenLife
seal_refused_turn first es k d x c b b₁ cells cells₁ r p f h is e o er bad eb ec =
    let v = tested cells c.used (labels_in c b) (jumps_in c b) in
    let w = seal_err c v r p f er bad in
    turn es k d x (Refused (fault.Seal f)) h is (λ ks. OpenAt first ks p.counts b₁ cells₁) Seal e
    (seal_refused o f w.0 w.1 (eb ∙ ap (λ y. when y (settled_book c b) b) bad) (ec ∙ ap (λ y. when y (laid (labels_in c b) c.used (jumps_in c b) cells) cells) bad))

pub determines : RunsDetermine
determines = runs_determine
