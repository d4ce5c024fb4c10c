use Rattle.lines.proofs.Deeds.{instruction_shown}
use Rattle.lines.proofs.deed.built.Goals as goal

pub returns : goal.returns
returns c = instruction_shown c.build.result c.args.op c.args.fields c.build.ensures
