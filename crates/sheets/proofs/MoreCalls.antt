-- One line's call more in a list of entries, and how many there are at most.
use Rattle.std.proofs.Common.{◌≡◌, ℕ, suc, ◌+◌, ◌<◌, ◌≤◌, Bool, true, false, cond, eqb, List, [], ◌∷◌, ◌++◌, map, length, take, set, Ok, Err, Result, sym, refl, ap, ap₂, ◌∙◌, append_assoc, arith, length-append}
use Rattle.std.specs.Result.{is_err}
use Rattle.std.proofs.lemmas.List.{take_more_set, map-append}
use Rattle.std.proofs.lemmas.Bool.Decides.{nat_tests}
use Rattle.text.specs.Fields.{fields, behind_commas, line_of}
use Rattle.text.specs.Lines.{Line, ended, unended, lines, sheet}
use Rattle.text.proofs.Splits.{lines_exact, fields_exact}
use Rattle.lives.specs.declared.types.Deed.{Deed}
use Rattle.lives.specs.declared.types.Call.{Call}
use Rattle.lives.specs.declared.types.Call.TheVariants.{Do, Seal}
use Rattle.lives.specs.declared.types.Entry.{Entry}
use Rattle.lives.specs.Life.{call_of}
use Rattle.lines.specs.declared.columns.Columns.{Columns}
use Rattle.lines.specs.declared.faults.LineFault.{LineFault}
use Rattle.lines.specs.declared.faults.LineFault.TheVariants.{FieldCount}
use Rattle.sheets.specs.History.{says}
use Rattle.sheets.specs.Entries.{calls, deeds, kept}

-- ---- a line that says a call has at least six bytes

behind_more : (fs : List (List ℕ)) → length fs ≤ length (behind_commas fs)
behind_more [] = omega arith
behind_more (f ∷ fs) = omega (arith, behind_more fs, length-append f (behind_commas fs))

line_more : (fs : List (List ℕ)) → length fs ≤ length (line_of fs) + 1
line_more [] = omega arith
line_more (f ∷ fs) = omega (arith, behind_more fs, length-append f (behind_commas fs))

fields_few : (t : List ℕ) → length (fields t) ≤ length t + 1
fields_few t = omega (arith, line_more (fields t), ap length (fields_exact t).1)

six : (n : ℕ) (r : Result Deed LineFault) (d : Deed) → cond (eqb n 6) r (Err (FieldCount n)) ≡ Ok d → n ≡ 6
six n r d e = go (eqb n 6) refl e
  where
    go : (b : Bool) → eqb n 6 ≡ b → cond b r (Err (FieldCount n)) ≡ Ok d → n ≡ 6
    go true t e = grind (arith, nat_tests)
    go false t e = grind (arith, e)

pub six_bytes : (c : Columns) (l : Line) (ls : List Line) (d : Deed) → says c l ≡ Ok d → 6 + length (sheet ls) ≤ length (sheet (l ∷ ls))
six_bytes c (ended t) ls d e =
    let s : length (fields t) ≡ 6 = six (length (fields t)) _ d e in
    omega (arith, fields_few t, s, length-append t (10 ∷ sheet ls))
six_bytes c (unended t) ls d e = grind (arith, e)

-- a sheet's lines have its bytes
pub sheet_bytes : (bytes : List ℕ) → length (sheet (lines bytes)) ≡ length bytes
sheet_bytes bytes = ap length (lines_exact bytes).1

-- a first line leaves fewer
pub fewer_bytes : (l : Line) (ls : List Line) → length (sheet ls) ≤ length (sheet (l ∷ ls))
fewer_bytes (ended t) ls = omega (arith, length-append t (10 ∷ sheet ls))
fewer_bytes (unended t) ls = omega (arith, length-append t (sheet ls))

-- ---- one call more

pub one_more : (es : List Entry) (k : ℕ) (e : Entry) (c : Call) (cs : List Call) → k < length es → e.call ≡ c → map call_of (take k es) ≡ cs → map call_of (take (k + 1) (set es k e)) ≡ cs ++ (c ∷ [])
one_more es k e c cs h f m =
    ap (map call_of) (take_more_set es k e h)
    ∙ map-append call_of (take k es) (e ∷ [])
    ∙ ap₂ (λ x y. x ++ (y ∷ [])) m f

pub deed_more : (es : List Entry) (k : ℕ) (e : Entry) (ds : List Deed) (d : Deed) → k < length es → e.call ≡ Do d → map call_of (take k es) ≡ map Do ds → map call_of (take (k + 1) (set es k e)) ≡ map Do (ds ++ (d ∷ []))
deed_more es k e ds d h c m = one_more es k e (Do d) (map Do ds) h c m ∙ sym (map-append Do ds (d ∷ []))

-- a line more, which says a call
module _ (c : Columns) (l : Line) (ls : List Line) (d : Deed) (e : says c l ≡ Ok d) where
  pub kept_more : (n m : ℕ) → m ≡ suc n → kept n (map (says c) (l ∷ ls)) ≡ kept m (map (says c) ls)
  kept_more n m h = ap (λ r. kept n (r ∷ map (says c) ls)) e ∙ ap (λ k. kept k (map (says c) ls)) (sym h)

  pub deeds_more : (before : List Deed) → before ++ deeds (map (says c) (l ∷ ls)) ≡ (before ++ (d ∷ [])) ++ deeds (map (says c) ls)
  deeds_more before = ap (λ r. before ++ deeds (r ∷ map (says c) ls)) e ∙ sym (append_assoc before (d ∷ []) (deeds (map (says c) ls)))

-- where a line says none, there is no seal
pub without_seal : (n : ℕ) (xs : List (Result Deed LineFault)) → is_err (kept n xs) ≡ true → calls xs ≡ map Do (deeds xs)
without_seal n [] h = grind (arith, h)
without_seal n (Err e ∷ xs) h = refl
without_seal n (Ok d ∷ xs) h = ap (λ cs. Do d ∷ cs) (without_seal (suc n) xs h)

-- where each says one, it stands behind them
pub with_seal : (n : ℕ) (xs : List (Result Deed LineFault)) → is_err (kept n xs) ≡ false → calls xs ≡ map Do (deeds xs) ++ (Seal ∷ [])
with_seal n [] h = refl
with_seal n (Err e ∷ xs) h = grind (arith, h)
with_seal n (Ok d ∷ xs) h = ap (λ cs. Do d ∷ cs) (with_seal (suc n) xs h)
