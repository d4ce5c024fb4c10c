use Rattle.std.proofs.Common.{sym, ◌∙◌, rules}
use Rattle.std.proofs.lemmas.List.{length-set}
use Rattle.scripts.proofs.Filled.{filled_more}
use Rattle.scripts.proofs.edits.fill.Goals as goal

pub loop-k-preserved : goal.loop-k-preserved
loop-k-preserved c =
    let i = c.loop-k.invariant in
    let n = length-set c.loop-k.list c.loop-k.k c.in_ok-list.field-0 in (
      search rules,
      n ∙ i.1,
      filled_more c.args.line.now c.loop-k.list c.loop-k.k c.in_ok-list.field-0 (search rules) (sym c.edit_at.ensures ∙ c.in_ok-list.was) i.2,
    )
