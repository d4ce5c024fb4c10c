-- Changes and values of a sealed program. Assumes nothing.
use Rattle.std.proofs.Common.{◌≡◌, ℕ, zero, suc, ◌+◌, ◌≤◌, Bool, true, false, cond, leb, ◌&&◌, ◌⊎◌, List, [], ◌∷◌, ◌++◌, map, length, get_or, take, drop, set, ℤ, pos, negsuc, Some, None, Ok, Err, Option, Result, sym, refl, ap, ◌∙◌, subst, inl, inr, arith, length-take, Bor}
use Rattle.std.specs.List.{slice_get, slice_index}
use Rattle.std.proofs.lemmas.List.{take_at, get_or-set_other}
use Rattle.std.proofs.lemmas.Bool.{leb-true, le-leb, and_parts, and_from}
use Rattle.store.specs.Answers.{when}
use Rattle.store.specs.Puts.{applied, puts}
use Rattle.store.proofs.Puts.{length-applied, applied-append}
use Rattle.records.specs.declared.counts.Counts.{Counts}
use Rattle.records.specs.declared.book.Book.{Book}
use Rattle.records.specs.Records.{slots_in}
use Rattle.items.specs.Items.{halfs}
use Rattle.items.specs.Pairs.{register_ok, makeable, pair, held_at}
use Rattle.changing.specs.declared.edits.Edit.{Edit}
use Rattle.changing.specs.declared.faults.EntryCause.{EntryCause}
use Rattle.changing.specs.declared.faults.ValueFault.{ValueFault}
use Rattle.changing.specs.declared.faults.ValueFault.TheVariants as value
use Rattle.changing.specs.Changing.{Verdict, numbered, inside, named, entry_judged, or_bad, edit_judged, changed_from, changed_answer, pair_puts, edit_puts, changed, held_in, valued}
use Rattle.lives.specs.declared.types.Call.{Call}
use Rattle.lives.specs.declared.types.Call.TheVariants.{Do, Try, Keep, GiveUp, Seal, Change, Value}
use Rattle.lives.specs.declared.types.Answer.TheVariants.{Taken, Held, Refused, OutOfState}
use Rattle.lives.specs.declared.types.Entry.{Entry}
use Rattle.lives.specs.declared.types.Fault.TheVariants as fault
use Rattle.lives.specs.Deeds.{raised, told, told_value, answered_sealed, cells_sealed}
use Rattle.lives.specs.Listing.{Listing, Slot, closed, spot, judged, value_told, with_pair, with_value, pair_of, given, edited_at, edited}
use Rattle.lives.specs.Life.{then, Beside, BesidePair, BesidePairs, EachHolds, EachNoted, noted_distance, due_distance}
use Rattle.lives.specs.Tied.{Tied, Aims, SealedAt}
use Rattle.lives.proofs.Standing.{give, slot_inside, same_length, all_same_starts, pair_length}
use Rattle.lives.proofs.Keeps.{split, drop_written, passed}
use Rattle.lives.proofs.Settling.{closed_promise}
use Rattle.lives.proofs.Steps.{entry}

pair_four : (d v : ℤ) → length (pair d v) ≡ 4
pair_four d v = let a = pair_length d v [] in let b = Rattle.std.proofs.Common.length-append (pair d v) [] in omega arith

-- ---- the slot that a number names, in the listing and in the book

spot_at : (ss : List Slot) (k : ℕ) (x : Slot) → slice_get ss k ≡ Some x → slice_get (map spot ss) k ≡ Some (spot x)
spot_at [] k x e = cc
spot_at (s ∷ ss) zero x e = let w : s ≡ x = cc in ap (λ y. Some (spot y)) w
spot_at (s ∷ ss) (suc k) x e = spot_at ss k x e

slot_there : (used : ℕ) (ss : List Slot) (k : ℕ) → inside used (slice_get (map spot ss) k) ≡ true → (x : Slot) × (slice_get ss k ≡ Some x)
slot_there used [] k e = cc
slot_there used (s ∷ ss) zero e = (s, refl)
slot_there used (s ∷ ss) (suc k) e = slot_there used ss k e

spots_kept : (ss : List Slot) (k : ℕ) (v : ℤ) → map spot (with_value ss k v) ≡ map spot ss
spots_kept [] k v = refl
spots_kept (s ∷ ss) zero v = refl
spots_kept (s ∷ ss) (suc k) v = ap (λ xs. spot s ∷ xs) (spots_kept ss k v)

count_kept : (ss : List Slot) (k : ℕ) (v : ℤ) → length (with_value ss k v) ≡ length ss
count_kept [] k v = refl
count_kept (s ∷ ss) zero v = refl
count_kept (s ∷ ss) (suc k) v = ap suc (count_kept ss k v)

-- ---- one slot given a value

given_tied : {n : ℕ} {L : Listing} {c : Counts} {b : Book} {cells : List ℕ} → Tied (Aims L.labels) n L c b cells → (k : ℕ) (v : ℤ) (x : Slot) → slice_get L.slots k ≡ Some x → makeable v ≡ true →
    Tied (Aims L.labels) n (given L k v) c b (applied (puts x.place (pair x.register v)) cells)
given_tied {n} {L} {c} {b} {cells} t k v x is h =
    let g = give t.stands k v x is h in
    let code₁ = with_pair x.place x.register v 0 L.code in
    let ps = puts x.place (pair x.register v) in
    let post = drop c.used cells in
    let L₁ : Listing = record { code = code₁; labels = L.labels; jumps = L.jumps; slots = with_value L.slots k v } in
    let E : L₁ ≡ given L k v = ap (λ o. record { code = pair_of o v L.code; labels = L.labels; jumps = L.jumps; slots = with_value L.slots k v }) (sym is) in
    let used₁ : length (halfs code₁) ≡ c.used = same_length code₁ L.code g.sized ∙ sym t.used in
    let W : applied ps cells ≡ halfs code₁ ++ post = ap (applied ps) (split t) ∙ g.cells [] post refl in
    subst (λ M. Tied (Aims L.labels) n M c b (applied ps cells)) E
    (record {
      whole = length-applied ps cells ∙ t.whole;
      used = sym used₁;
      code = ap (take c.used) W ∙ take_at (halfs code₁) post c.used used₁;
      nlabels = t.nlabels;
      labels = t.labels;
      njumps = t.njumps;
      jumps = t.jumps;
      nslots = t.nslots ∙ sym (count_kept L.slots k v);
      slots = t.slots ∙ sym (spots_kept L.slots k v);
      stands = g.stands;
      starts = all_same_starts L.code code₁ (sym g.sized) L.labels t.starts;
      label_room = t.label_room;
      jump_room = t.jump_room;
      slot_room = t.slot_room;
    })

-- what is put for a slot that lies inside the used halfwords
pair_put : (used : ℕ) (v : ℤ) (o : Option (ℕ × ℤ)) (s : ℕ × ℤ) → o ≡ Some s → inside used o ≡ true → makeable v ≡ true → pair_puts used v o ≡ puts s.0 (pair s.1 v)
pair_put used v o s e i m =
    ap (pair_puts used v) e ∙ ap (λ t. cond t (puts s.0 (pair s.1 v)) []) (and_from (inside used (Some s)) (makeable v) (ap (inside used) (sym e) ∙ i) m)

edit_tied : {n : ℕ} {L : Listing} {c : Counts} {b : Book} {cells : List ℕ} → Tied (Aims L.labels) n L c b cells → (z v : ℤ) → inside c.used (numbered (map spot L.slots) z) ≡ true → makeable v ≡ true →
    Tied (Aims (edited_at L z v).labels) n (edited_at L z v) c b (applied (pair_puts c.used v (numbered (map spot L.slots) z)) cells)
edit_tied {n} {L} {c} {b} {cells} t (pos k) v i m =
    let f = slot_there c.used L.slots k i in
    let w = pair_put c.used v (slice_get (map spot L.slots) k) (spot f.0) (spot_at L.slots k f.0 f.1) i m in
    subst (λ ps. Tied (Aims L.labels) n (given L k v) c b (applied ps cells)) (sym w) (given_tied t k v f.0 f.1 m)
edit_tied t (negsuc k) v i m = cc

edit_spots : (L : Listing) (z v : ℤ) → map spot (edited_at L z v).slots ≡ map spot L.slots
edit_spots L (pos k) v = spots_kept L.slots k v
edit_spots L (negsuc k) v = refl

-- ---- all the entries

entry_passed : (there before : Bool) (e : Edit) (u : Unit {0}) → Ok u ≡ entry_judged there before e → (there ≡ true) × (makeable e.value ≡ true)
entry_passed true true e u h = cc
entry_passed true false e u h = (refl, (passed (makeable e.value) (Ok tt) _ u h).0)
entry_passed false before e u h = cc

edit_passed : (k : ℕ) (there before : Bool) (e : Edit) (rest : Verdict) (u : Unit {0}) → Ok u ≡ edit_judged k there before e rest → (there ≡ true) × (makeable e.value ≡ true) × (Ok u ≡ rest)
edit_passed k there before e rest u h = go (entry_judged there before e) refl h
  where
    go : (r : Result (Unit {0}) EntryCause) → r ≡ entry_judged there before e → Ok u ≡ or_bad k r rest → (there ≡ true) × (makeable e.value ≡ true) × (Ok u ≡ rest)
    go (Ok w) q x = let p = entry_passed there before e w q in (p.0, p.1, x)
    go (Err c) q x = cc

changed_cons : (xs : List (ℕ × ℤ)) (used : ℕ) (e : Edit) (es : List Edit) (cells : List ℕ) → changed xs used (e ∷ es) cells ≡ changed xs used es (applied (pair_puts used e.value (numbered xs e.slot)) cells)
changed_cons xs used e es cells = applied-append (pair_puts used e.value (numbered xs e.slot)) (edit_puts xs used es) cells

edits_tied : {n : ℕ} {L : Listing} {c : Counts} {b : Book} {cells : List ℕ} → Tied (Aims L.labels) n L c b cells → (es : List Edit) (xs : List (ℕ × ℤ)) → map spot L.slots ≡ xs → (k : ℕ) (before : List Edit) (u : Unit {0}) →
    Ok u ≡ changed_from k xs c.used before es → Tied (Aims (edited L es).labels) n (edited L es) c b (changed xs c.used es cells)
edits_tied t [] xs ex k before u a = t
edits_tied {n} {L} {c} {b} {cells} t (e ∷ es) xs ex k before u a =
    let later = changed_from (suc k) xs c.used (before ++ (e ∷ [])) es in
    let ok = edit_passed k (inside c.used (numbered xs e.slot)) (named before e.slot) e later u a in
    let t₁ = edit_tied t e.slot e.value (ap (λ ys. inside c.used (numbered ys e.slot)) ex ∙ ok.0) ok.1 in
    let w : applied (pair_puts c.used e.value (numbered (map spot L.slots) e.slot)) cells ≡ applied (pair_puts c.used e.value (numbered xs e.slot)) cells =
    ap (λ ys. applied (pair_puts c.used e.value (numbered ys e.slot)) cells) ex in
    subst (λ z. Tied (Aims (edited (edited_at L e.slot e.value) es).labels) n (edited (edited_at L e.slot e.value) es) c b z) (ap (changed xs c.used es) w ∙ sym (changed_cons xs c.used e es cells))
    (edits_tied {L = edited_at L e.slot e.value} t₁ es xs (edit_spots L e.slot e.value ∙ ex) (suc k) (before ++ (e ∷ [])) u ok.2)

-- labels and jumps are left
edit_labels : (L : Listing) (z v : ℤ) → (edited_at L z v).labels ≡ L.labels
edit_labels L (pos k) v = refl
edit_labels L (negsuc k) v = refl

edit_jumps : (L : Listing) (z v : ℤ) → (edited_at L z v).jumps ≡ L.jumps
edit_jumps L (pos k) v = refl
edit_jumps L (negsuc k) v = refl

edited_labels : (L : Listing) (es : List Edit) → (edited L es).labels ≡ L.labels
edited_labels L [] = refl
edited_labels L (e ∷ es) = edited_labels (edited_at L e.slot e.value) es ∙ edit_labels L e.slot e.value

edited_jumps : (L : Listing) (es : List Edit) → (edited L es).jumps ≡ L.jumps
edited_jumps L [] = refl
edited_jumps L (e ∷ es) = edited_jumps (edited_at L e.slot e.value) es ∙ edit_jumps L e.slot e.value

edited_noted : (L : Listing) (es : List Edit) (b : Book) → EachNoted closed L b → EachNoted closed (edited L es) b
edited_noted L es b h =
    ap (λ (js : List (ℕ × ℕ)). map noted_distance (take (length js) b.jumps)) (edited_jumps L es)
    ∙ h
    ∙ ap (λ ls. map (due_distance ls) L.jumps) (sym (edited_labels L es))
    ∙ ap (map (due_distance (edited L es).labels)) (sym (edited_jumps L es))

-- ---- what a change leaves

pair_beyond : (used : ℕ) (v : ℤ) (o : Option (ℕ × ℤ)) (cells : List ℕ) → drop used (applied (pair_puts used v o) cells) ≡ drop used cells
pair_beyond used v None cells = refl
pair_beyond used v (Some s) cells = go (inside used (Some s) && makeable v) refl
  where
    go : (t : Bool) → t ≡ (inside used (Some s) && makeable v) → drop used (applied (cond t (puts s.0 (pair s.1 v)) []) cells) ≡ drop used cells
    go true e =
        let i = (and_parts (inside used (Some s)) (makeable v) (sym e)).0 in
        let l : s.0 + 4 ≤ used = leb-true (s.0 + 4) used (and_parts (leb (s.0 + 4) used) (register_ok s.1) i).0 in
        let four = pair_four s.1 v in
        drop_written cells s.0 (pair s.1 v) used (omega arith)
    go false e = refl

changed_beyond : (xs : List (ℕ × ℤ)) (used : ℕ) (es : List Edit) (cells : List ℕ) → drop used (changed xs used es cells) ≡ drop used cells
changed_beyond xs used [] cells = refl
changed_beyond xs used (e ∷ es) cells =
    let cells₁ = applied (pair_puts used e.value (numbered xs e.slot)) cells in
    ap (drop used) (changed_cons xs used e es cells) ∙ changed_beyond xs used es cells₁ ∙ pair_beyond used e.value (numbered xs e.slot) cells

written_beside : (cells : List ℕ) (at : ℕ) (ws : List ℕ) (n i : ℕ) → length ws ≤ n → Beside at n i → slice_index (applied (puts at ws) cells) i ≡ slice_index cells i
written_beside cells at [] n i l h = refl
written_beside cells at (w ∷ ws) zero i l h = absurd (omega arith)
written_beside cells at (w ∷ ws) (suc n) i l (inl h) = written_beside (set cells at w) (suc at) ws n i (omega arith) (inl (omega arith)) ∙ get_or-set_other cells at i w 0 (λ e. omega arith)
written_beside cells at (w ∷ ws) (suc n) i l (inr h) = written_beside (set cells at w) (suc at) ws n i (omega arith) (inr (omega arith)) ∙ get_or-set_other cells at i w 0 (λ e. omega arith)

spot_beside : (used : ℕ) (v : ℤ) (s : Slot) (cells : List ℕ) (i : ℕ) → Beside s.place 4 i → slice_index (applied (pair_puts used v (Some (spot s))) cells) i ≡ slice_index cells i
spot_beside used v s cells i h = go (inside used (Some (spot s)) && makeable v)
  where
    go : (t : Bool) → slice_index (applied (cond t (puts s.place (pair s.register v)) []) cells) i ≡ slice_index cells i
    go true = let four = pair_four s.register v in written_beside cells s.place (pair s.register v) 4 i (omega arith) h
    go false = refl

slot_beside : (used : ℕ) (v : ℤ) (ss : List Slot) (k : ℕ) (cells : List ℕ) (i : ℕ) → BesidePair (slice_get ss k) i → slice_index (applied (pair_puts used v (slice_get (map spot ss) k)) cells) i ≡ slice_index cells i
slot_beside used v [] k cells i h = refl
slot_beside used v (s ∷ ss) zero cells i h = spot_beside used v s cells i h
slot_beside used v (s ∷ ss) (suc k) cells i h = slot_beside used v ss k cells i h

edit_beside : (used : ℕ) (v : ℤ) (ss : List Slot) (z : ℤ) (cells : List ℕ) (i : ℕ) → BesidePair (numbered ss z) i → slice_index (applied (pair_puts used v (numbered (map spot ss) z)) cells) i ≡ slice_index cells i
edit_beside used v ss (pos k) cells i h = slot_beside used v ss k cells i h
edit_beside used v ss (negsuc k) cells i h = refl

changed_beside : (used : ℕ) (ss : List Slot) (es : List Edit) (cells : List ℕ) (i : ℕ) → BesidePairs ss es i → slice_index (changed (map spot ss) used es cells) i ≡ slice_index cells i
changed_beside used ss [] cells i h = refl
changed_beside used ss (e ∷ es) cells i h =
    let cells₁ = applied (pair_puts used e.value (numbered (map spot ss) e.slot)) cells in
    ap (λ z. slice_index z i) (changed_cons (map spot ss) used e es cells) ∙ changed_beside used ss es cells₁ i h.1 ∙ edit_beside used e.value ss e.slot cells i h.0

-- ---- a value that is told is the listing's

slot_value : (z : ℤ) (used : ℕ) (cells : List ℕ) (ss : List Slot) (k : ℕ) → EachHolds cells ss → ((j : ℕ) (x : Slot) → slice_get ss j ≡ Some x → x.place + 4 ≤ used) →
    told_value (held_in z used cells (slice_get (map spot ss) k)) ≡ value_told z (slice_get ss k)
slot_value z used cells [] k h p = refl
slot_value z used cells (s ∷ ss) zero h p =
    ap (λ t. told_value (cond t (Ok (held_at cells s.place)) (Err (value.NoSlot z)))) (le-leb (s.place + 4) used (p zero s refl)) ∙ ap Held h.0
slot_value z used cells (s ∷ ss) (suc k) h p = slot_value z used cells ss k h.1 (λ j x e. p (suc j) x e)

value_at : (z : ℤ) (used : ℕ) (cells : List ℕ) (ss : List Slot) → EachHolds cells ss → ((j : ℕ) (x : Slot) → slice_get ss j ≡ Some x → x.place + 4 ≤ used) →
    told_value (held_in z used cells (numbered (map spot ss) z)) ≡ value_told z (numbered ss z)
value_at (pos k) used cells ss h p = slot_value (pos k) used cells ss k h p
value_at (negsuc k) used cells ss h p = refl

value_is : {n : ℕ} {L : Listing} {c : Counts} {b : Book} {cells : List ℕ} → Tied (Aims L.labels) n L c b cells → (z : ℤ) → told_value (valued cells c.used (slots_in c b) z) ≡ value_told z (numbered L.slots z)
value_is {n} {L} {c} {b} {cells} t z =
    let l : c.used ≤ length cells = (let e = ap length t.code in let f = length-take c.used cells in let g = t.used in omega arith) in
    ap (λ x. told_value (cond x (held_in z c.used cells (numbered (slots_in c b) z)) (Err value.Full))) (le-leb c.used (length cells) l)
    ∙ ap (λ xs. told_value (held_in z c.used cells (numbered xs z))) t.slots
    ∙ value_at z c.used cells L.slots (closed_promise t).slots (λ j x e. let h = (slot_inside t.stands j x e).1 in let g = t.used in omega arith)

module _ {n : List ℕ} {es : List Entry} {c : Counts} {b : Book} {cells : List ℕ} where
  changes : SealedAt n es c b cells → (r : Bor (List Edit)) (v : Verdict) {cells₁ : List ℕ} → v ≡ changed_answer (length cells) c.used (slots_in c b) r.now →
      cells₁ ≡ applied (when v (edit_puts (slots_in c b) c.used r.now) []) cells → SealedAt n (es ++ (entry (Change r) (told (raised fault.Change v)) ∷ [])) c b cells₁
  changes o r (Ok u) a₀ ec =
      let t = o.2 in
      let L = o.0 in
      let a : Ok u ≡ changed_answer (length n) c.used (map spot L.slots) r.now =
      a₀ ∙ ap (λ k. changed_answer k c.used (slots_in c b) r.now) t.whole ∙ ap (λ xs. changed_answer (length n) c.used xs r.now) t.slots in
      let ok = passed (leb c.used (length n)) (changed_from 0 (map spot L.slots) c.used [] r.now) _ u a in
      let t₁ = edits_tied t r.now (map spot L.slots) refl 0 [] u ok.1 in
      let C = changed (map spot L.slots) c.used r.now cells in
      subst (λ z. SealedAt n (es ++ (entry (Change r) Taken ∷ [])) c b z) (sym (ec ∙ ap (λ xs. changed xs c.used r.now cells) t.slots)) (
        edited L r.now,
        then o.1 (Change r) Taken (ap (λ x. told (raised fault.Change x)) (a ∙ ap (λ k. changed_answer (length n) k (map spot L.slots) r.now) t.used))
            (subst (λ k. drop k C ≡ drop k cells) t₁.used (changed_beyond (map spot L.slots) c.used r.now cells))
            (changed_beside c.used L.slots r.now cells)
            (closed_promise t₁),
        t₁,
        edited_noted L r.now b o.3,
      )
  changes o r (Err f) a₀ ec =
      let t = o.2 in
      let L = o.0 in
      let a : Err f ≡ changed_answer (length n) c.used (map spot L.slots) r.now =
      a₀ ∙ ap (λ k. changed_answer k c.used (slots_in c b) r.now) t.whole ∙ ap (λ xs. changed_answer (length n) c.used xs r.now) t.slots in
      subst (λ z. SealedAt n (es ++ (entry (Change r) (Refused (fault.Change f)) ∷ [])) c b z) (sym ec) (
        L,
        then o.1 (Change r) (Refused (fault.Change f)) (ap (λ x. told (raised fault.Change x)) (a ∙ ap (λ k. changed_answer (length n) k (map spot L.slots) r.now) t.used)) refl refl (closed_promise t),
        t,
        o.3,
      )

  values : SealedAt n es c b cells → (z : ℤ) (v : Result ℤ ValueFault) → v ≡ valued cells c.used (slots_in c b) z → SealedAt n (es ++ (entry (Value z) (told_value v) ∷ [])) c b cells
  values o z (Ok x) a = (o.0, then o.1 (Value z) (Held x) (ap told_value a ∙ value_is o.2 z) refl refl (closed_promise o.2), o.2, o.3)
  values o z (Err f) a = (o.0, then o.1 (Value z) (Refused (fault.Value f)) (ap told_value a ∙ value_is o.2 z) refl refl (closed_promise o.2), o.2, o.3)

  -- a call that a sealed program does not take
  out_sealed : SealedAt n es c b cells → (x : Call) → ((L : Listing) → judged (length n) (record { mode = closed; listing = L }) x ≡ OutOfState) → SealedAt n (es ++ (entry x OutOfState ∷ [])) c b cells
  out_sealed o x q = (o.0, then o.1 x OutOfState (sym (q o.0)) refl refl (closed_promise o.2), o.2, o.3)

  -- any call
  pub sealed_step : SealedAt n es c b cells → (x : Call) → SealedAt n (es ++ (entry x (answered_sealed cells c b x) ∷ [])) c b (cells_sealed cells c b x)
  sealed_step o (Do d) = out_sealed o (Do d) (λ L. refl)
  sealed_step o Try = out_sealed o Try (λ L. refl)
  sealed_step o Keep = out_sealed o Keep (λ L. refl)
  sealed_step o GiveUp = out_sealed o GiveUp (λ L. refl)
  sealed_step o Seal = out_sealed o Seal (λ L. refl)
  sealed_step o (Change r) = changes o r (changed_answer (length cells) c.used (slots_in c b) r.now) refl refl
  sealed_step o (Value z) = values o z (valued cells c.used (slots_in c b) z) refl
