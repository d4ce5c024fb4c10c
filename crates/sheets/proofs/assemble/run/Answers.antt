use Rattle.std.proofs.Common.{map, length, ap, ◌∙◌}
use Rattle.lives.specs.Listing.{start, end}
use Rattle.lives.specs.Life.{call_of, given_up}
use Rattle.sheets.specs.Entries.{answers, reached}
use Rattle.sheets.proofs.Runs.{judged_run, run_holds}
use Rattle.sheets.proofs.assemble.run.Goals as goal

pub returns-clause-answers : goal.returns-clause-answers
returns-clause-answers g c =
    let n = length (g.S.Store.halfwords c.args.store.now) in
    let l = c.live.ensures.lived in
    (judged_run l.1).told ∙ ap (answers n start) c.live.ensures.calls

pub returns-clause-holds : goal.returns-clause-holds
returns-clause-holds g c =
    let n = length (g.S.Store.halfwords c.args.store.now) in
    let l = c.live.ensures.lived in
    run_holds n (map call_of c.args.entries.now) c.live.new.entries l.0 (g.S.Store.halfwords c.live.new.store) (judged_run l.1) c.live.ensures.calls

pub returns-clause-used : goal.returns-clause-used
returns-clause-used g c =
    let n = length (g.S.Store.halfwords c.args.store.now) in
    let l = c.live.ensures.lived in
    l.4 ∙ ap (λ t. end (given_up t).listing) ((judged_run l.1).stage ∙ ap (reached n start) c.live.ensures.calls)

pub returns-clause-size : goal.returns-clause-size
returns-clause-size g c = c.live.ensures.lived.5
