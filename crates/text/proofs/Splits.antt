-- A sheet's lines and a line's fields write it, and nothing else does.
use Rattle.std.proofs.Common.{◌≡◌, ℕ, ◌<◌, Bool, true, false, cond, eqb, List, [], ◌∷◌, ◌++◌, length, sym, refl, ap, ◌∙◌, arith}
use Rattle.std.specs.List.{AllByRecursion, onto_first}
use Rattle.std.proofs.lemmas.List.{append-nil}
use Rattle.std.proofs.lemmas.List.Splits.{slice_split-cons_no, length-slice_split}
use Rattle.std.proofs.lemmas.Bool.{eqb-true, eqb-false, ne_eqb, cond-false}
use Rattle.text.specs.Bytes.{Without}
use Rattle.text.specs.Lines.{Line, ended, unended, with_byte, lines, sheet, Tidy, LinesExact}
use Rattle.text.specs.Fields.{fields, line_of, FieldsExact}

-- lines

tidy_front : (x : ℕ) (ls : List Line) → (x ≡ 10 → ⊥) → Tidy ls → Tidy (with_byte x ls)
tidy_front x [] ne h = ((ne, tt), omega arith, refl)
tidy_front x (ended t ∷ ls) ne h = ((ne, h.0), h.1)
tidy_front x (unended t ∷ ls) ne h = ((ne, h.0), omega arith, h.2)

tidy_step : (x : ℕ) (ls : List Line) (b : Bool) → eqb x 10 ≡ b → Tidy ls → Tidy (cond b (ended [] ∷ ls) (with_byte x ls))
tidy_step x ls true e h = (tt, h)
tidy_step x ls false e h = tidy_front x ls (eqb-false x 10 e) h

tidy_lines : (s : List ℕ) → Tidy (lines s)
tidy_lines [] = tt
tidy_lines (x ∷ s) = tidy_step x (lines s) (eqb x 10) refl (tidy_lines s)

sheet_front : (x : ℕ) (ls : List Line) → sheet (with_byte x ls) ≡ x ∷ sheet ls
sheet_front x [] = refl
sheet_front x (ended t ∷ ls) = refl
sheet_front x (unended t ∷ ls) = refl

sheet_step : (x : ℕ) (ls : List Line) (b : Bool) → eqb x 10 ≡ b → sheet (cond b (ended [] ∷ ls) (with_byte x ls)) ≡ x ∷ sheet ls
sheet_step x ls true e = ap (λ y. y ∷ sheet ls) (sym (eqb-true x 10 e))
sheet_step x ls false e = sheet_front x ls

sheet-lines : (s : List ℕ) → sheet (lines s) ≡ s
sheet-lines [] = refl
sheet-lines (x ∷ s) = sheet_step x (lines s) (eqb x 10) refl ∙ ap (λ r. x ∷ r) (sheet-lines s)

other : (x : ℕ) (s : List ℕ) → (x ≡ 10 → ⊥) → lines (x ∷ s) ≡ with_byte x (lines s)
other x s ne = cond-false (eqb x 10) (ended [] ∷ lines s) (with_byte x (lines s)) (ne_eqb x 10 ne)

pub one_ended : (t s : List ℕ) → Without 10 t → lines (t ++ (10 ∷ s)) ≡ ended t ∷ lines s
one_ended [] s w = refl
one_ended (x ∷ t) s w = other x (t ++ (10 ∷ s)) w.0 ∙ ap (with_byte x) (one_ended t s w.1)

pub one_unended : (t : List ℕ) → Without 10 t → 0 < length t → lines t ≡ unended t ∷ []
one_unended [] w l = absurd (omega arith)
one_unended (x ∷ []) w l = other x [] w.0
one_unended (x ∷ y ∷ t) w l = other x (y ∷ t) w.0 ∙ ap (with_byte x) (one_unended (y ∷ t) w.1 (omega arith))

lines-sheet : (ls : List Line) → Tidy ls → lines (sheet ls) ≡ ls
lines-sheet [] h = refl
lines-sheet (ended t ∷ ls) h = one_ended t (sheet ls) h.0 ∙ ap (λ r. ended t ∷ r) (lines-sheet ls h.1)
lines-sheet (unended t ∷ ls) h =
    ap (λ r. lines (t ++ sheet r)) h.2 ∙ ap lines (append-nil t) ∙ one_unended t h.0 h.1 ∙ ap (λ r. unended t ∷ r) (sym h.2)

pub lines_exact : LinesExact
lines_exact s = (tidy_lines s, sheet-lines s, λ ls h e. sym (lines-sheet ls h) ∙ ap lines e)

-- fields

pub some_field : (xs : List ℕ) → 0 < length (fields xs)
some_field xs = omega (arith, length-slice_split (λ b. eqb b 44) xs)

apart_front : (x : ℕ) (fs : List (List ℕ)) → (x ≡ 44 → ⊥) → AllByRecursion (Without 44) fs → AllByRecursion (Without 44) (onto_first x fs)
apart_front x [] ne h = ((ne, tt), tt)
apart_front x (f ∷ fs) ne h = ((ne, h.0), h.1)

apart_step : (x : ℕ) (fs : List (List ℕ)) (b : Bool) → eqb x 44 ≡ b → AllByRecursion (Without 44) fs → AllByRecursion (Without 44) (cond b ([] ∷ fs) (onto_first x fs))
apart_step x fs true e h = (tt, h)
apart_step x fs false e h = apart_front x fs (eqb-false x 44 e) h

apart_fields : (s : List ℕ) → AllByRecursion (Without 44) (fields s)
apart_fields [] = (tt, tt)
apart_fields (x ∷ s) = apart_step x (fields s) (eqb x 44) refl (apart_fields s)

line_front : (x : ℕ) (fs : List (List ℕ)) → line_of (onto_first x fs) ≡ x ∷ line_of fs
line_front x [] = refl
line_front x (f ∷ fs) = refl

line_comma : (fs : List (List ℕ)) → 0 < length fs → line_of ([] ∷ fs) ≡ 44 ∷ line_of fs
line_comma [] l = absurd (omega arith)
line_comma (f ∷ fs) l = refl

line_step : (x : ℕ) (fs : List (List ℕ)) (b : Bool) → eqb x 44 ≡ b → 0 < length fs → line_of (cond b ([] ∷ fs) (onto_first x fs)) ≡ x ∷ line_of fs
line_step x fs true e l = line_comma fs l ∙ ap (λ y. y ∷ line_of fs) (sym (eqb-true x 44 e))
line_step x fs false e l = line_front x fs

line_fields : (s : List ℕ) → line_of (fields s) ≡ s
line_fields [] = refl
line_fields (x ∷ s) = line_step x (fields s) (eqb x 44) refl (some_field s) ∙ ap (λ r. x ∷ r) (line_fields s)

no_comma : (x : ℕ) (s : List ℕ) → (x ≡ 44 → ⊥) → fields (x ∷ s) ≡ onto_first x (fields s)
no_comma x s ne = slice_split-cons_no (λ b. eqb b 44) x s (ne_eqb x 44 ne)

pub one_last : (f : List ℕ) → Without 44 f → fields (f ++ []) ≡ f ∷ []
one_last [] w = refl
one_last (x ∷ f) w = no_comma x (f ++ []) w.0 ∙ ap (onto_first x) (one_last f w.1)

one_more : (f s : List ℕ) → Without 44 f → fields (f ++ (44 ∷ s)) ≡ f ∷ fields s
one_more [] s w = refl
one_more (x ∷ f) s w = no_comma x (f ++ (44 ∷ s)) w.0 ∙ ap (onto_first x) (one_more f s w.1)

fields_line : (fs : List (List ℕ)) → 0 < length fs → AllByRecursion (Without 44) fs → fields (line_of fs) ≡ fs
fields_line [] l h = absurd (omega arith)
fields_line (f ∷ []) l h = one_last f h.0
fields_line (f ∷ g ∷ fs) l h = one_more f (line_of (g ∷ fs)) h.0 ∙ ap (λ r. f ∷ r) (fields_line (g ∷ fs) (omega arith) h.1)

pub fields_exact : FieldsExact
fields_exact s = (
  record { any = some_field s; none = apart_fields s },
  line_fields s,
  λ fs h e. sym (fields_line fs h.any h.none) ∙ ap fields e,
)
