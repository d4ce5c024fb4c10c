use Rattle.std.proofs.Common.{◌<◌, IfSome, subst, ◌∙◌}
use Rattle.operations.proofs.Rows.{rows_length}
use Rattle.operations.proofs.Named.{named_in}
use Rattle.operations.proofs.names.place_of.Goals as goal

pub returns-clause-place : goal.returns-clause-place
returns-clause-place c = c.place_in.ensures.place ∙ named_in c.table.result.now c.args.name.now c.table.ensures

pub returns-clause-real : goal.returns-clause-real
returns-clause-real c = subst (λ n. IfSome c.place_in.result (λ k. k < n)) (rows_length c.table.result.now c.table.ensures) c.place_in.ensures.real
