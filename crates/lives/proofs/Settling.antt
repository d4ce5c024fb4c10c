-- The seal's step of a life. Assumes nothing.
use Rattle.std.proofs.Common.{◌≡◌, ℕ, zero, suc, ◌+◌, ◌*◌, ◌≤◌, Bool, true, false, cond, leb, ◌==◌, List, [], ◌∷◌, ◌++◌, map, length, get_or, take, drop, ℤ, pos, ◌+ℤ◌, Some, Ok, Err, sym, refl, ap, ◌∙◌, subst, arith, length-append}
use Rattle.std.proofs.lemmas.List.{take_at, drop_at}
use Rattle.std.proofs.lemmas.Int.{ints}
use Rattle.store.specs.Answers.{when}
use Rattle.store.proofs.Puts.{length-applied}
use Rattle.records.specs.declared.counts.Counts.{Counts}
use Rattle.records.specs.declared.book.JumpRecord.{JumpRecord}
use Rattle.records.specs.declared.book.Book.{Book}
use Rattle.records.specs.Records.{place_of, jump_of, labels_in, jumps_in}
use Rattle.items.specs.Items.{Item, words, halfs, distance_of, distance}
use Rattle.items.specs.Pairs.{pair}
use Rattle.items.proofs.Leaps.{jump_laws}
use Rattle.sealing.specs.declared.faults.SealFault.{SealFault}
use Rattle.sealing.specs.declared.faults.SealFault.TheVariants.{Full}
use Rattle.sealing.specs.Sealing.{Verdict, seal_puts, laid, noted, distance_to, settled_book, tested}
use Rattle.lives.specs.Listing.{Listing, Slot, free, closed, end, sealed_from, settled, sealed}
use Rattle.lives.specs.declared.types.Fault.TheVariants as fault
use Rattle.lives.specs.declared.types.Answer.TheVariants.{Taken, Refused}
use Rattle.lives.specs.declared.types.Entry.{Entry}
use Rattle.lives.specs.declared.types.Call.TheVariants.{Seal}
use Rattle.lives.specs.Deeds.{raised, told}
use Rattle.lives.specs.Life.{Starts, EachLeads, Promise, BesideJumps, EachNoted, noted_distance, due_distance, then}
use Rattle.lives.specs.Tied.{Stands, none, some, jump, slot, Tied, Any, Aims, AllStart, OpenAt, SealedAt}
use Rattle.lives.proofs.Standing.{re, longer, longer_pair, re_pair, pair_end, same_length, all_same_starts}
use Rattle.lives.proofs.Keeps.{split, passed, promised}
use Rattle.lives.proofs.Steps.{at_equals, entry}
use Rattle.lives.proofs.Judging.{from_start, found_at, tested_is}
use Rattle.lives.proofs.Laying.{Settled, settle}

-- ---- once sealed, each jump leads to its label

start_of : (code : List Item) (ls : List (ℕ × ℕ)) (l q : ℕ) → AllStart code ls → place_of ls l ≡ Some q → Starts code q
start_of code [] l q s e = cc
start_of code (x ∷ ls) l q s e = go (x.0 == l) (start_of code ls l q s.1) e
  where
    go : (t : Bool) → (place_of ls l ≡ Some q → Starts code q) → cond t (Some x.1) (place_of ls l) ≡ Some q → Starts code q
    go true f h = let w : x.1 ≡ q = cc in subst (λ k. Starts code k) w s.0
    go false f h = f h

-- its place plus half the distance, doubled
there_and : (p q : ℕ) (z : ℤ) → z ≡ distance p q → pos (2 * p) +ℤ z ≡ pos (2 * q)
there_and p q z e = omega (arith, ints)

module _ (ls : List (ℕ × ℕ)) (code : List Item) (starts : AllStart code ls) where
  leads_code : {at : ℕ} {is : List Item} {js : List (ℕ × ℕ)} {ss : List Slot} → Stands (Aims ls) at is js ss → at + length (halfs is) ≤ length (halfs code) → (pre post : List ℕ) → length pre ≡ at →
      EachLeads ls code (pre ++ (halfs is ++ post)) js
  leads_code none h pre post e = tt
  leads_code {at} {js} (some i is w p s) h pre post e =
      let n = length-append (words i) (halfs is) in
      subst (λ xs. EachLeads ls code xs js) (sym (re pre (words i) (halfs is) post)) (leads_code s (omega arith) (pre ++ words i) post (longer pre (words i) at e))
  leads_code {at} (jump l i is js w p q s) h pre post e =
      let n = length-append (words i) (halfs is) in (
        record {
          goal = q.0;
          bound = q.1;
          word = i;
          stands = found_at pre i is post at (length (halfs code)) (jump_laws.found i pre (halfs is ++ post) (length (halfs code)) w p (omega arith)) e (pre ++ (halfs (i ∷ is) ++ post)) refl;
          leads = there_and at q.0 (distance_of i) q.2;
          starts = start_of code ls l q.0 starts q.1;
        },
        subst (λ xs. EachLeads ls code xs js) (sym (re pre (words i) (halfs is) post)) (leads_code s (omega arith) (pre ++ words i) post (longer pre (words i) at e)),
      )
  leads_code {at} {js} (slot d v is ss r m s) h pre post e =
      let n = pair_end d v is in
      subst (λ xs. EachLeads ls code xs js) (sym (re_pair pre d v is post)) (leads_code s (omega arith) (pre ++ pair d v) post (longer_pair pre d v at e))

-- what a sealed listing's tie promises
pub leads_of : {n : ℕ} {L : Listing} {c : Counts} {b : Book} {cells : List ℕ} → Tied (Aims L.labels) n L c b cells → EachLeads L.labels L.code cells L.jumps
leads_of {n} {L} {c} {b} {cells} t =
    subst (λ xs. EachLeads L.labels L.code xs L.jumps) (sym (split t)) (leads_code L.labels L.code t.starts t.stands (omega arith) [] (drop c.used cells) refl)

pub closed_promise : {n : ℕ} {L : Listing} {c : Counts} {b : Book} {cells : List ℕ} → Tied (Aims L.labels) n L c b cells → Promise (record { mode = closed; listing = L }) cells
closed_promise t = promised closed t (leads_of t)

-- ---- the book

length_noted : (ls : List (ℕ × ℕ)) (k : ℕ) (rs : List JumpRecord) → length (noted ls k rs) ≡ length rs
length_noted ls zero rs = refl
length_noted ls (suc k) [] = refl
length_noted ls (suc k) (r ∷ rs) = ap suc (length_noted ls k rs)

-- each record's place and label stay
noted_jumps : (ls : List (ℕ × ℕ)) (k m : ℕ) (rs : List JumpRecord) → map jump_of (take m (noted ls k rs)) ≡ map jump_of (take m rs)
noted_jumps ls zero m rs = refl
noted_jumps ls (suc k) m [] = refl
noted_jumps ls (suc k) zero (r ∷ rs) = refl
noted_jumps ls (suc k) (suc m) (r ∷ rs) = ap (λ xs. jump_of r ∷ xs) (noted_jumps ls k m rs)

-- and it gets the distance to its label
noted_distances : (ls : List (ℕ × ℕ)) (k : ℕ) (rs : List JumpRecord) → map noted_distance (take k (noted ls k rs)) ≡ map (due_distance ls) (map jump_of (take k rs))
noted_distances ls zero rs = refl
noted_distances ls (suc k) [] = refl
noted_distances ls (suc k) (r ∷ rs) = ap (λ xs. distance_to r.place (place_of ls r.label) ∷ xs) (noted_distances ls k rs)

-- ---- the tie after a taken seal

module _ {n : ℕ} {L : Listing} {c : Counts} {b : Book} {cells : List ℕ} (t : Tied Any n L c b cells) where
  -- the test is the listing's
  answer_is : tested cells c.used (labels_in c b) (jumps_in c b) ≡ cond (leb (end L) n) (sealed_from 0 L.labels L.code L.jumps) (Err Full)
  answer_is =
      ap (λ x. tested cells c.used x (jumps_in c b)) t.labels
      ∙ ap (λ x. tested cells c.used L.labels x) t.jumps
      ∙ ap (λ x. cond (leb c.used (length cells)) x (Err Full))
      (tested_is L.labels L.code c.used t.stands (from_start L.code) [] (drop c.used cells) refl (let e = t.used in omega arith) 0 cells (split t) [] tt)
      ∙ ap (λ x. cond (leb c.used x) (sealed_from 0 L.labels L.code L.jumps) (Err Full)) t.whole
      ∙ ap (λ x. cond (leb x n) (sealed_from 0 L.labels L.code L.jumps) (Err Full)) t.used

  module _ (u : Unit {0}) (a : Ok u ≡ sealed_from 0 L.labels L.code L.jumps) where
    done : Settled L.labels L.code c.used 0 L.code L.jumps L.slots
    done = settle L.labels L.code c.used t.stands (from_start L.code) (let e = t.used in omega arith) 0 u a

    laid_is : laid L.labels c.used L.jumps cells ≡ halfs (settled L.labels L.code L.jumps) ++ drop c.used cells
    laid_is = ap (laid L.labels c.used L.jumps) (split t) ∙ done.cells [] (drop c.used cells) refl

    settled_length : length (halfs (settled L.labels L.code L.jumps)) ≡ c.used
    settled_length = same_length (settled L.labels L.code L.jumps) L.code done.sized ∙ sym t.used

    sealed_tied : Tied (Aims L.labels) n (sealed L) c (settled_book c b) (laid L.labels c.used L.jumps cells)
    sealed_tied =
        let code₁ = settled L.labels L.code L.jumps in
        record {
          whole = length-applied (seal_puts L.labels c.used L.jumps cells) cells ∙ t.whole;
          used = sym settled_length;
          code = ap (take c.used) laid_is ∙ take_at (halfs code₁) (drop c.used cells) c.used settled_length;
          nlabels = t.nlabels;
          labels = t.labels;
          njumps = t.njumps;
          jumps = noted_jumps (labels_in c b) c.jumps c.jumps b.jumps ∙ t.jumps;
          nslots = t.nslots;
          slots = t.slots;
          stands = done.stands;
          starts = all_same_starts L.code code₁ (sym done.sized) L.labels t.starts;
          label_room = t.label_room;
          jump_room = length_noted (labels_in c b) c.jumps b.jumps ∙ t.jump_room;
          slot_room = t.slot_room;
        }

    sealed_noted : EachNoted closed (sealed L) (settled_book c b)
    sealed_noted =
        ap (λ k. map noted_distance (take k (noted (labels_in c b) c.jumps b.jumps))) (sym t.njumps)
        ∙ noted_distances (labels_in c b) c.jumps b.jumps
        ∙ ap (λ x. map (due_distance x) (jumps_in c b)) t.labels
        ∙ ap (map (due_distance L.labels)) t.jumps

    -- nothing is altered past the end
    sealed_beyond : drop (end (sealed L)) (laid L.labels c.used L.jumps cells) ≡ drop (end (sealed L)) cells
    sealed_beyond =
        let code₁ = settled L.labels L.code L.jumps in
        ap (drop (length (halfs code₁))) laid_is
        ∙ drop_at (halfs code₁) (drop c.used cells) (length (halfs code₁)) refl
        ∙ ap (λ k. drop k cells) (sym settled_length)

    -- nor beside the jumps' words
    sealed_beside : (k : ℕ) → BesideJumps L.code L.jumps k → get_or (laid L.labels c.used L.jumps cells) k 0 ≡ get_or cells k 0
    sealed_beside k h = subst (λ xs. get_or (laid L.labels c.used L.jumps xs) k 0 ≡ get_or xs k 0) (sym (split t)) (done.beside [] (drop c.used cells) refl k h)

-- ---- the step

-- what a life is after a seal, taken or refused
abbrev pub AfterSeal : List ℕ → List Entry → Verdict → Counts → Book → List ℕ → Type 0
AfterSeal n es (Ok u) c b cells = SealedAt n (es ++ (entry Seal Taken ∷ [])) c b cells
AfterSeal n es (Err e) c b cells = OpenAt n (es ++ (entry Seal (Refused (fault.Seal e)) ∷ [])) c b cells

module _ {n : List ℕ} {es : List Entry} {c c₁ : Counts} {b b₁ : Book} {cells cells₁ : List ℕ} (o : OpenAt n es c b cells) where
  pub seal_taken : (u : Unit {0}) → Ok u ≡ tested cells c.used (labels_in c b) (jumps_in c b) → c₁ ≡ c → b₁ ≡ settled_book c b → cells₁ ≡ laid (labels_in c b) c.used (jumps_in c b) cells →
      SealedAt n (es ++ (entry Seal Taken ∷ [])) c₁ b₁ cells₁
  seal_taken u a₀ ec eb es₁ =
      let L = o.0 in
      let t = o.2 in
      let a₁ = a₀ ∙ answer_is t in
      let a = (passed (leb (end L) (length n)) (sealed_from 0 L.labels L.code L.jumps) Full u a₁).1 in
      let t₁ = sealed_tied t u a in
      let f : laid (labels_in c b) c.used (jumps_in c b) cells ≡ laid L.labels c.used L.jumps cells = ap (λ x. laid x c.used (jumps_in c b) cells) t.labels ∙ ap (λ x. laid L.labels c.used x cells) t.jumps in
      at_equals (λ x y z. SealedAt n (es ++ (entry Seal Taken ∷ [])) x y z) ec eb (es₁ ∙ f)
      (sealed L, then o.1 Seal Taken (ap (λ x. told (raised fault.Seal x)) a₁) (sealed_beyond t u a) (sealed_beside t u a) (closed_promise t₁), t₁, sealed_noted t u a)

  pub seal_refused : (e : SealFault) → Err e ≡ tested cells c.used (labels_in c b) (jumps_in c b) → c₁ ≡ c → b₁ ≡ b → cells₁ ≡ cells → OpenAt n (es ++ (entry Seal (Refused (fault.Seal e)) ∷ [])) c₁ b₁ cells₁
  seal_refused e a₀ ec eb es₁ =
      at_equals (λ x y z. OpenAt n (es ++ (entry Seal (Refused (fault.Seal e)) ∷ [])) x y z) ec eb es₁
      (o.0, then o.1 Seal (Refused (fault.Seal e)) (ap (λ x. told (raised fault.Seal x)) (a₀ ∙ answer_is o.2)) refl refl (promised free o.2 tt), o.2)

  pub seal_step : (r : Verdict) → r ≡ tested cells c.used (labels_in c b) (jumps_in c b) → c₁ ≡ c → b₁ ≡ when r (settled_book c b) b → cells₁ ≡ when r (laid (labels_in c b) c.used (jumps_in c b) cells) cells →
      AfterSeal n es r c₁ b₁ cells₁
  seal_step (Ok u) a ec eb es₁ = seal_taken u a ec eb es₁
  seal_step (Err e) a ec eb es₁ = seal_refused e a ec eb es₁
