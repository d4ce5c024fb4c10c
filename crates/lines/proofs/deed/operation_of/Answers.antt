use Rattle.lines.proofs.Deeds.{there_placed}
use Rattle.lines.proofs.deed.operation_of.Goals as goal

pub returns : goal.returns
returns c = there_placed c.by_name.result c.args.name.now c.by_name.ensures
