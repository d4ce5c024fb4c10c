-- The entries of a change, gone through in order. Assumes nothing.
use Rattle.std.proofs.Common.{◌≡◌, ℕ, ◌+◌, ◌<◌, ◌≤◌, List, ◌∷◌, ℤ, pos, length, get_or, drop, sym, ap, ◌∙◌, subst}
use Rattle.std.proofs.lemmas.List.{drop_more}
use Rattle.store.specs.Puts.{applied}
use Rattle.store.proofs.Puts.{length-applied, applied-append}
use Rattle.changing.specs.declared.edits.Edit.{Edit}
use Rattle.changing.specs.Changing.{numbered, pair_puts, edit_puts, changed}

abbrev pub no_edit : Edit
no_edit = record { slot = pos 0; value = pos 0 }

changed-cons : (xs : List (ℕ × ℤ)) (used : ℕ) (e : Edit) (es : List Edit) (cells : List ℕ) → changed xs used (e ∷ es) cells ≡ changed xs used es (applied (pair_puts used e.value (numbered xs e.slot)) cells)
changed-cons xs used e es cells = applied-append (pair_puts used e.value (numbered xs e.slot)) (edit_puts xs used es) cells

-- one entry more is written: the entries after it give the rest
pub changed_step : (xs : List (ℕ × ℤ)) (used : ℕ) (es : List Edit) (i : ℕ) (e : Edit) (cells later : List ℕ) → i < length es → e ≡ get_or es i no_edit → later ≡ applied (pair_puts used e.value (numbered xs e.slot)) cells → changed xs used (drop i es) cells ≡ changed xs used (drop (i + 1) es) later
changed_step xs used es i e cells later l is after =
    let x = get_or es i no_edit in
    ap (λ t. changed xs used t cells) (drop_more es i no_edit l)
    ∙ changed-cons xs used x (drop (i + 1) es) cells
    ∙ ap (λ y. changed xs used (drop (i + 1) es) (applied (pair_puts used y.value (numbered xs y.slot)) cells)) (sym is)
    ∙ ap (λ t. changed xs used (drop (i + 1) es) t) (sym after)

-- what is put leaves the length
pub changed_room : (n : ℕ) (ps : List (ℕ × ℕ)) (cells later : List ℕ) → n ≤ length cells → later ≡ applied ps cells → n ≤ length later
changed_room n ps cells later l after = subst (λ k. n ≤ k) (sym (ap length after ∙ length-applied ps cells)) l
