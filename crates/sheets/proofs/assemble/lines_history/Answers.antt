use Rattle.std.proofs.Common.{◌≡◌, map, length, Ok, Err, sym, ap, ◌∙◌, subst, arith}
use Rattle.std.proofs.lemmas.Result.{err_from_is_err_and}
use Rattle.text.specs.Lines.{lines}
use Rattle.lives.specs.Listing.{end}
use Rattle.sheets.specs.History.{says, ended_by_seal}
use Rattle.sheets.specs.Entries.{calls, outcome, Comes}
use Rattle.sheets.proofs.LineOrder.{refused_comes, kept_comes, stage_comes}
use Rattle.sheets.proofs.Calm.{calm, fits}
use Rattle.sheets.proofs.assemble.lines_history.Goals as goal

pub returns-in_err-used : goal.returns-in_err-used
returns-in_err-used g c =
    let n = length (g.S.Store.halfwords c.args.store.now) in
    let xs = map (says c.args.columns.now) (lines c.args.lines.rest.now) in
    let cells = g.S.Store.halfwords c.answered.new.store in
    let p = err_from_is_err_and c.from_residual.result c.from_residual.ensures.1 in
    let d = c.in_err-used.field-0.0 in
    let o : outcome n (calls xs) ≡ Err d = sym (ap (outcome n) c.read_calls-reading.ensures.entries) ∙ c.in_err-used.ensures.answer in
    subst (λ r. Comes n (ended_by_seal n xs) r cells) (sym (p.1 ∙ ap Err p.2)) (refused_comes n xs d o)

pub returns-in_err-reading : goal.returns-in_err-reading
returns-in_err-reading g c =
    let n = length (g.S.Store.halfwords c.args.store.now) in
    let xs = map (says c.args.columns.now) (lines c.args.lines.rest.now) in
    let cells = g.S.Store.halfwords c.answered.new.store in
    let a = c.in_ok-used.ensures.answer in
    let p = err_from_is_err_and c.from_residual-in_err-reading.result c.from_residual-in_err-reading.ensures.1 in
    let d = c.in_err-reading.field-0.0 in
    let o : outcome n (calls xs) ≡ Ok a.0 = sym (ap (outcome n) c.read_calls-reading.ensures.entries) ∙ a.1.0 in
    subst (λ r. Comes n (ended_by_seal n xs) r cells) (sym (p.1 ∙ ap Err p.2)) (kept_comes n xs a.0 d o (sym c.read_calls-reading.ensures.kept ∙ c.in_err-reading.was))

pub returns : goal.returns
returns g c =
    let n = length (g.S.Store.halfwords c.args.store.now) in
    let xs = map (says c.args.columns.now) (lines c.args.lines.rest.now) in
    let a = c.in_ok-used.ensures.answer in
    let o : outcome n (calls xs) ≡ Ok a.0 = sym (ap (outcome n) c.read_calls-reading.ensures.entries) ∙ a.1.0 in
    let u : c.in_ok-used.used ≡ end a.0.listing = a.1.1 ∙ ap (λ t. end t.listing) (calm n xs a.0 o) in
    (a.0, (stage_comes n xs a.0 o (sym c.read_calls-reading.ensures.kept ∙ c.in_ok-reading.was), u, omega (arith, u, fits a.0 (g.S.Store.halfwords c.answered.new.store) a.1.2, c.answered.ensures.size), a.1.2))
