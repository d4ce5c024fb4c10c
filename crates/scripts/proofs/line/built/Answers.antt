use Rattle.scripts.proofs.Built.{lawful_emits, unlawful_is_none}
use Rattle.scripts.proofs.line.built.Goals as goal

pub returns-in-Ok : goal.returns-in-Ok
returns-in-Ok c = lawful_emits c.build.result c.args.op c.args.fields c.in-Ok.i c.in-Ok.is c.build.ensures

pub returns-in-Err : goal.returns-in-Err
returns-in-Err c = unlawful_is_none c.build.result c.args.op c.args.fields c.in-Err.fault c.in-Err.is c.build.ensures
