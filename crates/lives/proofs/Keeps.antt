-- What each call of an open program keeps. Assumes nothing.
use Rattle.std.proofs.Common.{◌≡◌, ℕ, suc, ◌+◌, ◌<◌, ◌≤◌, Bool, true, false, cond, ltb, leb, List, [], ◌∷◌, ◌++◌, map, length, take, drop, set, ℤ, pos, Some, None, Ok, Err, Option, Result, sym, refl, ap, ◌∙◌, subst, append_assoc, append-nil, arith, length-append, length-set, take_all}
use lib.Seq.{take-append-le}
use Rattle.std.proofs.lemmas.List.{drop-set-lt, take_more_set, take-set-le, take-append-drop, map_push, length_push}
use Rattle.std.proofs.lemmas.Bool.{leb-true, ltb-true}
use Rattle.store.specs.Puts.{applied, puts}
use Rattle.store.proofs.Puts.{length-applied, take-applied-puts}
use Rattle.instructions.specs.declared.fields.BuildFault.{BuildFault}
use Rattle.instructions.specs.Faults.{is_none, fault, reaches}
use Rattle.operations.specs.Manual.{form_at}
use Rattle.aiming.specs.declared.faults.JumpFault.{JumpFault}
use Rattle.aiming.specs.Jumps.{jump_fault, as_build, unaimed}
use Rattle.records.specs.declared.counts.Counts.{Counts}
use Rattle.records.specs.declared.book.Book.{Book}
use Rattle.records.specs.Records.{place_of, label_of, jump_of, slot_of, labels_in, jumps_in, slots_in, none}
use Rattle.items.specs.Items.{Item, Lawful, item_of, words, halfs, jumps}
use Rattle.items.specs.Pairs.{register_ok, makeable, upper, lower, pair}
use Rattle.items.proofs.Items.{item_laws}
use Rattle.calls.specs.declared.jump.JumpTo.{JumpTo}
use Rattle.calls.specs.Calls.{emitted, constanted, jumped, after_fault, with_label, known_label, bound, bound_as, bound_at, jump_item, label_number}
use Rattle.lives.specs.declared.types.Deed.{Deed}
use Rattle.lives.specs.declared.types.Deed.TheVariants.{Emit, Constant, Jump, Bind}
use Rattle.lives.specs.declared.types.Fault.{Fault}
use Rattle.lives.specs.declared.types.Fault.TheVariants as life
use Rattle.lives.specs.Deeds.{raised, answered, counts_by, book_by, words_by, cells_by}
use Rattle.lives.specs.Listing.{Listing, Mode, end, empty, spot, due, listed}
use Rattle.lives.specs.Life.{Promise, OnceSealed, Starts, EachHolds}
use Rattle.lives.specs.Tied.{Tied, Any, AllStart, Over}
use Rattle.lives.specs.Tied as tied
use Rattle.lives.proofs.Standing.{stands_lawful, snoc_plain, snoc_jump, snoc_slot, holds_code, pair_end}

-- ---- halfwords written behind others

pub take_before : (cells : List ℕ) (k at : ℕ) (ws : List ℕ) → k ≤ at → take k (applied (puts at ws) cells) ≡ take k cells
take_before cells k at [] h = refl
take_before cells k at (w ∷ ws) h = take_before (set cells at w) k (suc at) ws (omega arith) ∙ take-set-le k cells at w h

pub drop_written : (cells : List ℕ) (at : ℕ) (ws : List ℕ) (m : ℕ) → at + length ws ≤ m → drop m (applied (puts at ws) cells) ≡ drop m cells
drop_written cells at [] m h = refl
drop_written cells at (w ∷ ws) m h = drop_written (set cells at w) (suc at) ws m (omega arith) ∙ drop-set-lt m cells at w (omega arith)

pub halfs-append : (is ks : List Item) → halfs (is ++ ks) ≡ halfs is ++ halfs ks
halfs-append [] ks = refl
halfs-append (j ∷ is) ks = ap (λ xs. words j ++ xs) (halfs-append is ks) ∙ sym (append_assoc (words j) (halfs is) (halfs ks))

-- ---- records

-- one record more
record_more : {A B : Type 0} (f : A → B) (xs : List A) (k : ℕ) (y : A) → k < length xs → map f (take (k + 1) (set xs k y)) ≡ map f (take k xs) ++ (f y ∷ [])
record_more f xs k y h = ap (map f) (take_more_set xs k y h) ∙ map_push f (take k xs) y

-- records before it are left
record_before : {A B : Type 0} (f : A → B) (xs : List A) (j k : ℕ) (y : A) → j ≤ k → map f (take j (set xs k y)) ≡ map f (take j xs)
record_before f xs j k y h = ap (map f) (take-set-le j xs k y h)

-- ---- what a taken call passed

pub raised_ok : {F : Type 0} (f : F → Fault) (r : Result (Unit {0}) F) (u : Unit {0}) → Ok u ≡ raised f r → Ok u ≡ r
raised_ok f (Ok v) u e = ap Ok refl
raised_ok f (Err x) u e = cc

-- a test that was passed
pub passed : {F : Type 0} (t : Bool) (r : Result (Unit {0}) F) (e : F) (u : Unit {0}) → Ok u ≡ cond t r (Err e) → (t ≡ true) × (Ok u ≡ r)
passed true r e u h = (refl, h)
passed false r e u h = cc

-- a test that was not met
missed : {F : Type 0} (t : Bool) (r : Result (Unit {0}) F) (e : F) (u : Unit {0}) → Ok u ≡ cond t (Err e) r → (t ≡ false) × (Ok u ≡ r)
missed true r e u h = cc
missed false r e u h = (refl, h)

fault_passed : (o : Option JumpFault) (r : _) (u : Unit {0}) → Ok u ≡ after_fault o r → (o ≡ None) × (Ok u ≡ r)
fault_passed None r u h = (refl, h)
fault_passed (Some e) r u h = cc

label_passed : (l : ℤ) (o : Option ℕ) (r : _) (u : Unit {0}) → Ok u ≡ with_label l o r → Ok u ≡ r
label_passed l None r u h = cc
label_passed l (Some k) r u h = h

bound_passed : (n : ℕ) (l : ℤ) (ls : List (ℕ × ℕ)) (o : Option ℕ) (u : Unit {0}) → Ok u ≡ bound_as n l ls o → n < 64
bound_passed n l ls None u h = cc
bound_passed n l ls (Some k) u h = go (place_of ls k) h
  where
    go : (p : Option ℕ) → Ok u ≡ bound_at n l p → n < 64
    go (Some p) x = cc
    go None x = ltb-true n 64 (passed (ltb n 64) (Ok tt) _ u x).0

-- a jump without a fault is a lawful jump
faultless : (o : Option BuildFault) → as_build o ≡ None → is_none o ≡ true
faultless None e = refl
faultless (Some b) e = cc

reaching : (t : Bool) (o : Option JumpFault) (e : JumpFault) → cond t o (Some e) ≡ None → (t ≡ true) × (o ≡ None)
reaching true o e h = (refl, h)
reaching false o e h = cc

jump_lawful : (t : JumpTo) → jump_fault t.op.place t.d t.a t.b ≡ None → Lawful (jump_item t) × (jumps (jump_item t) ≡ true)
unfolding Lawful jumps
jump_lawful t e =
    let ok = reaching (reaches (form_at t.op.place).kind) (as_build (fault (form_at t.op.place) (unaimed t.d t.a t.b))) _ e in
    ((t.op.real, faultless (fault (form_at t.op.place) (unaimed t.d t.a t.b)) ok.1), ok.0)

-- ---- the answer of a call is the listing's

pub due_is : {n : ℕ} {L : Listing} {c : Counts} {b : Book} {cells : List ℕ} → Tied Any n L c b cells → (d : Deed) → answered n c b d ≡ due n L d
due_is {n} t (Emit i) = ap (λ u. raised life.Emit (emitted n u (item_of i))) t.used
due_is {n} {L} {c} t (Constant l) = ap (λ u. raised life.Constant (constanted n u c.slots l.d l.value)) t.used ∙ ap (λ k. raised life.Constant (constanted n (end L) k l.d l.value)) t.nslots
due_is {n} {L} {c} t (Jump j) = ap (λ u. raised life.Jump (jumped n u c.jumps j)) t.used ∙ ap (λ k. raised life.Jump (jumped n (end L) k j)) t.njumps
due_is {n} {L} {c} t (Bind l) = ap (λ xs. raised life.Bind (bound c.labels xs l)) t.labels ∙ ap (λ k. raised life.Bind (bound k L.labels l)) t.nlabels

-- ---- the tie after a taken call

-- the items' part of a tie, some items more
code_more : {n : ℕ} {L : Listing} {c : Counts} {b : Book} {cells : List ℕ} → Tied Any n L c b cells → (ks : List Item) (ws : List ℕ) → halfs ks ≡ ws → c.used + length ws ≤ n →
    (c.used + length ws ≡ length (halfs (L.code ++ ks))) × (take (c.used + length ws) (applied (puts c.used ws) cells) ≡ halfs (L.code ++ ks))
code_more {n} {L} {c} {b} {cells} t ks ws w h =
    let fits : c.used + length ws ≤ length cells = (let e = t.whole in omega arith) in
    let grows : length (halfs (L.code ++ ks)) ≡ end L + length ws = ap length (halfs-append L.code ks) ∙ length-append (halfs L.code) (halfs ks) ∙ ap (λ xs. end L + length xs) w in (
      ap (λ u. u + length ws) t.used ∙ sym grows,
      take-applied-puts c.used ws cells fits ∙ ap (λ xs. xs ++ ws) t.code ∙ ap (λ xs. halfs L.code ++ xs) (sym w) ∙ sym (halfs-append L.code ks),
    )

one_item : (i : Item) → halfs (i ∷ []) ≡ words i
one_item i = append-nil (words i)

two_items : (d v : ℤ) → halfs (upper d v ∷ lower d v ∷ []) ≡ pair d v
two_items d v = ap (λ xs. words (upper d v) ++ xs) (append-nil (words (lower d v)))

start_more : (code ks : List Item) (q : ℕ) → Starts code q → Starts (code ++ ks) q
start_more code ks q s =
    let h = s.1 in
    (s.0, (let e = length-append code ks in omega arith), ap (λ xs. length (halfs xs)) (take-append-le s.0 code ks s.1) ∙ s.2)

starts_more : (code ks : List Item) (ls : List (ℕ × ℕ)) → AllStart code ls → AllStart (code ++ ks) ls
starts_more code ks [] s = tt
starts_more code ks (l ∷ ls) s = (start_more code ks l.1 s.0, starts_more code ks ls s.1)

starts_bind : (code : List Item) (ls : List (ℕ × ℕ)) (l : ℕ) → AllStart code ls → AllStart code (ls ++ ((l, length (halfs code)) ∷ []))
starts_bind code [] l s = ((length code, omega arith, ap (λ xs. length (halfs xs)) (take_all (length code) code (omega arith))), tt)
starts_bind code (x ∷ ls) l s = (s.0, starts_bind code ls l s.1)

module _ {n : ℕ} {L : Listing} {c : Counts} {b : Book} {cells : List ℕ} (t : Tied Any n L c b cells) where
  emit_tied : (i : _) (u : Unit {0}) → Ok u ≡ answered n c b (Emit i) → Tied Any n (listed L (Emit i)) (counts_by (Emit i) c) (book_by (Emit i) c b) (cells_by (Emit i) c cells)
  emit_tied i u a =
      let ws = words (item_of i) in
      let ok = missed (jumps (item_of i)) _ _ u (raised_ok life.Emit (emitted n c.used (item_of i)) u a) in
      let room = passed (leb (c.used + length ws) n) (Ok tt) _ u ok.1 in
      let more = code_more t (item_of i ∷ []) ws (one_item (item_of i)) (leb-true _ _ room.0) in
      record {
        whole = length-applied (puts c.used ws) cells ∙ t.whole;
        used = more.0;
        code = more.1;
        nlabels = t.nlabels;
        labels = t.labels;
        njumps = t.njumps;
        jumps = t.jumps;
        nslots = t.nslots;
        slots = t.slots;
        stands = snoc_plain t.stands (item_of i) (item_laws.lawful i) ok.0;
        starts = starts_more L.code (item_of i ∷ []) L.labels t.starts;
        label_room = t.label_room;
        jump_room = t.jump_room;
        slot_room = t.slot_room;
      }

  constant_tied : (l : _) (u : Unit {0}) → Ok u ≡ answered n c b (Constant l) → Tied Any n (listed L (Constant l)) (counts_by (Constant l) c) (book_by (Constant l) c b) (cells_by (Constant l) c cells)
  constant_tied l u a =
      let d = l.d in
      let v = l.value in
      let ks = upper d v ∷ lower d v ∷ [] in
      let ok₁ = passed (register_ok d) _ _ u (raised_ok life.Constant (constanted n c.used c.slots d v) u a) in
      let ok₂ = passed (makeable v) _ _ u ok₁.1 in
      let ok₃ = passed (ltb c.slots 32) _ _ u ok₂.1 in
      let room₁ = passed (leb (c.used + 4) n) (Ok tt) _ u ok₃.1 in
      let four : length (pair d v) ≡ 4 = (let e = pair_end d v [] in let f = ap length (two_items d v) in omega arith) in
      let more = code_more t ks (pair d v) (two_items d v) (let h : c.used + 4 ≤ n = leb-true _ _ room₁.0 in omega arith) in
      let room : c.slots < length b.slots = (let e = t.slot_room in let h : c.slots < 32 = ltb-true _ _ ok₃.0 in omega arith) in
      record {
        whole = length-applied (puts c.used (pair d v)) cells ∙ t.whole;
        used = (let e = more.0 in omega arith);
        code = subst (λ k. take (c.used + k) (applied (puts c.used (pair d v)) cells) ≡ halfs (L.code ++ ks)) four more.1;
        nlabels = t.nlabels;
        labels = t.labels;
        njumps = t.njumps;
        jumps = t.jumps;
        nslots = ap (λ k. k + 1) t.nslots ∙ sym (length_push L.slots _);
        slots = record_more slot_of b.slots c.slots (record { place = c.used; register = d }) room
            ∙ ap (λ xs. xs ++ ((c.used, d) ∷ [])) t.slots
            ∙ ap (λ p. map spot L.slots ++ ((p, d) ∷ [])) t.used
            ∙ sym (map_push spot L.slots (record { place = end L; register = d; value = v }));
        stands = snoc_slot t.stands d v (end L) ok₁.0 ok₂.0 (omega arith);
        starts = starts_more L.code ks L.labels t.starts;
        label_room = t.label_room;
        jump_room = t.jump_room;
        slot_room = length-set b.slots c.slots _ ∙ t.slot_room;
      }

  jump_tied : (j : JumpTo) (u : Unit {0}) → Ok u ≡ answered n c b (Jump j) → Tied Any n (listed L (Jump j)) (counts_by (Jump j) c) (book_by (Jump j) c b) (cells_by (Jump j) c cells)
  jump_tied j u a =
      let i = jump_item j in
      let ws = words i in
      let m = label_number j.label in
      let ok₁ = fault_passed (jump_fault j.op.place j.d j.a j.b) _ u (raised_ok life.Jump (jumped n c.used c.jumps j) u a) in
      let ok₂ = label_passed j.label (known_label j.label) _ u ok₁.1 in
      let ok₃ = passed (ltb c.jumps 128) _ _ u ok₂ in
      let ok₄ = passed (leb (c.used + length ws) n) (Ok tt) _ u ok₃.1 in
      let more = code_more t (i ∷ []) ws (one_item i) (leb-true _ _ ok₄.0) in
      let law = jump_lawful j ok₁.0 in
      let room : c.jumps < length b.jumps = (let e = t.jump_room in let h : c.jumps < 128 = ltb-true _ _ ok₃.0 in omega arith) in
      record {
        whole = length-applied (puts c.used ws) cells ∙ t.whole;
        used = more.0;
        code = more.1;
        nlabels = t.nlabels;
        labels = t.labels;
        njumps = ap (λ k. k + 1) t.njumps ∙ sym (length_push L.jumps (end L, m));
        jumps = record_more jump_of b.jumps c.jumps (record { place = c.used; label = m; distance = pos 0 }) room
            ∙ ap (λ xs. xs ++ ((c.used, m) ∷ [])) t.jumps
            ∙ ap (λ p. L.jumps ++ ((p, m) ∷ [])) t.used;
        nslots = t.nslots;
        slots = t.slots;
        stands = snoc_jump t.stands i m (end L) law.0 law.1 (omega arith);
        starts = starts_more L.code (i ∷ []) L.labels t.starts;
        label_room = t.label_room;
        jump_room = length-set b.jumps c.jumps _ ∙ t.jump_room;
        slot_room = t.slot_room;
      }

  bind_tied : (l : ℤ) (u : Unit {0}) → Ok u ≡ answered n c b (Bind l) → Tied Any n (listed L (Bind l)) (counts_by (Bind l) c) (book_by (Bind l) c b) (cells_by (Bind l) c cells)
  bind_tied l u a =
      let m = label_number l in
      let few = bound_passed c.labels l (labels_in c b) (known_label l) u (raised_ok life.Bind (bound c.labels (labels_in c b) l) u a) in
      let room : c.labels < length b.labels = (let e = t.label_room in omega arith) in
      record {
        whole = t.whole;
        used = t.used;
        code = t.code;
        nlabels = ap (λ k. k + 1) t.nlabels ∙ sym (length_push L.labels (m, end L));
        labels = record_more label_of b.labels c.labels (record { label = m; place = c.used }) room
            ∙ ap (λ xs. xs ++ ((m, c.used) ∷ [])) t.labels
            ∙ ap (λ p. L.labels ++ ((m, p) ∷ [])) t.used;
        njumps = t.njumps;
        jumps = t.jumps;
        nslots = t.nslots;
        slots = t.slots;
        stands = t.stands;
        starts = starts_bind L.code L.labels m t.starts;
        label_room = length-set b.labels c.labels _ ∙ t.label_room;
        jump_room = t.jump_room;
        slot_room = t.slot_room;
      }

  pub deed_tied : (d : Deed) (u : Unit {0}) → Ok u ≡ answered n c b d → Tied Any n (listed L d) (counts_by d c) (book_by d c b) (cells_by d c cells)
  deed_tied (Emit i) u a = emit_tied i u a
  deed_tied (Constant l) u a = constant_tied l u a
  deed_tied (Jump j) u a = jump_tied j u a
  deed_tied (Bind l) u a = bind_tied l u a

  -- nothing is altered past the end
  pub deed_beyond : (d : Deed) (u : Unit {0}) → Ok u ≡ answered n c b d → drop (end (listed L d)) (cells_by d c cells) ≡ drop (end (listed L d)) cells
  deed_beyond (Emit i) u a = let e = (deed_tied (Emit i) u a).used in drop_written cells c.used (words_by (Emit i)) _ (omega arith)
  deed_beyond (Constant l) u a =
      let e = (deed_tied (Constant l) u a).used in
      let f = pair_end l.d l.value [] in
      let g = ap length (two_items l.d l.value) in
      drop_written cells c.used (words_by (Constant l)) _ (omega arith)
  deed_beyond (Jump j) u a = let e = (deed_tied (Jump j) u a).used in drop_written cells c.used (words_by (Jump j)) _ (omega arith)
  deed_beyond (Bind l) u a = refl

  -- nor before it
  pub deed_before : (d : Deed) → take (end L) (cells_by d c cells) ≡ take (end L) cells
  deed_before d = let e = t.used in take_before cells (end L) c.used (words_by d) (omega arith)

-- ---- an earlier listing stays tied to the counts saved for it

-- a tie to another book and store that agree where it looks
moved_tie : {n : ℕ} {S : Listing} {c : Counts} {b b₁ : Book} {cells cells₁ : List ℕ} → Tied Any n S c b cells → length cells₁ ≡ length cells → take c.used cells₁ ≡ take c.used cells →
    labels_in c b₁ ≡ labels_in c b → jumps_in c b₁ ≡ jumps_in c b → slots_in c b₁ ≡ slots_in c b →
    length b₁.labels ≡ length b.labels → length b₁.jumps ≡ length b.jumps → length b₁.slots ≡ length b.slots → Tied Any n S c b₁ cells₁
moved_tie t e k l j s x y z =
    record {
      whole = e ∙ t.whole;
      used = t.used;
      code = k ∙ t.code;
      nlabels = t.nlabels;
      labels = l ∙ t.labels;
      njumps = t.njumps;
      jumps = j ∙ t.jumps;
      nslots = t.nslots;
      slots = s ∙ t.slots;
      stands = t.stands;
      starts = t.starts;
      label_room = x ∙ t.label_room;
      jump_room = y ∙ t.jump_room;
      slot_room = z ∙ t.slot_room;
    }

pub deed_saved : {n : ℕ} {S : Listing} {saved c : Counts} {b : Book} {cells : List ℕ} → Tied Any n S saved b cells → Over saved c → (d : Deed) → Tied Any n S saved (book_by d c b) (cells_by d c cells)
deed_saved {n} {S} {saved} {c} {b} {cells} t o (Emit i) =
    moved_tie t (length-applied (puts c.used (words_by (Emit i))) cells) (take_before cells saved.used c.used (words_by (Emit i)) o.used) refl refl refl refl refl refl
deed_saved {n} {S} {saved} {c} {b} {cells} t o (Constant l) =
    moved_tie t (length-applied (puts c.used (words_by (Constant l))) cells) (take_before cells saved.used c.used (words_by (Constant l)) o.used) refl refl
    (record_before slot_of b.slots saved.slots c.slots _ o.slots) refl refl (length-set b.slots c.slots _)
deed_saved {n} {S} {saved} {c} {b} {cells} t o (Jump j) =
    moved_tie t (length-applied (puts c.used (words_by (Jump j))) cells) (take_before cells saved.used c.used (words_by (Jump j)) o.used) refl
    (record_before jump_of b.jumps saved.jumps c.jumps _ o.jumps) refl refl (length-set b.jumps c.jumps _) refl
deed_saved {n} {S} {saved} {c} {b} {cells} t o (Bind l) =
    moved_tie t refl refl (record_before label_of b.labels saved.labels c.labels _ o.labels) refl refl (length-set b.labels c.labels _) refl refl

pub deed_over : {saved c : Counts} → Over saved c → (d : Deed) → Over saved (counts_by d c)
deed_over o (Emit i) = record { used = omega arith; labels = o.labels; jumps = o.jumps; slots = o.slots }
deed_over o (Constant l) = record { used = omega arith; labels = o.labels; jumps = o.jumps; slots = omega arith }
deed_over o (Jump j) = record { used = omega arith; labels = o.labels; jumps = omega arith; slots = o.slots }
deed_over o (Bind l) = record { used = o.used; labels = omega arith; jumps = o.jumps; slots = o.slots }

pub over_self : (c : Counts) → Over c c
over_self c = record { used = omega arith; labels = omega arith; jumps = omega arith; slots = omega arith }

-- ---- what a tie promises

pub split : {P : ℕ × ℕ → ℤ → Type 0} {n : ℕ} {L : Listing} {c : Counts} {b : Book} {cells : List ℕ} → Tied P n L c b cells → cells ≡ halfs L.code ++ drop c.used cells
split {P} {n} {L} {c} {b} {cells} t = sym (take-append-drop c.used cells) ∙ ap (λ xs. xs ++ drop c.used cells) t.code

pub promised : {P : ℕ × ℕ → ℤ → Type 0} {n : ℕ} {L : Listing} {c : Counts} {b : Book} {cells : List ℕ} → (m : Mode) → Tied P n L c b cells → OnceSealed m L cells → Promise (record { mode = m; listing = L }) cells
promised {P} {n} {L} {c} {b} {cells} m t q =
    let code : take (end L) cells ≡ halfs L.code = subst (λ k. take k cells ≡ halfs L.code) t.used t.code in
    record {
      code = code;
      lawful = stands_lawful t.stands;
      only = λ is e. item_laws.once is L.code (stands_lawful t.stands) (e ∙ code);
      leads = q;
      slots = subst (λ xs. EachHolds xs L.slots) (sym (split t)) (holds_code t.stands [] (drop c.used cells) refl);
    }

-- nothing listed, whatever store and book hold
pub bare : (b : Book) (cells : List ℕ) → length b.labels ≡ 64 → length b.jumps ≡ 128 → length b.slots ≡ 32 → Tied Any (length cells) empty none b cells
bare b cells l j s =
    record {
      whole = refl;
      used = refl;
      code = refl;
      nlabels = refl;
      labels = refl;
      njumps = refl;
      jumps = refl;
      nslots = refl;
      slots = refl;
      stands = tied.none;
      starts = tt;
      label_room = l;
      jump_room = j;
      slot_room = s;
    }
