use Rattle.std.proofs.Common.{arith}
use Rattle.scripts.proofs.Zeros.{zeros_run}
use Rattle.scripts.proofs.whole.on_zeros.Goals as goal

pub returns-clause-answered : goal.returns-clause-answered
returns-clause-answered g c = zeros_run c.on_bytes.result _ _ _ c.args.size (omega (arith, c.requires)) c.on_bytes.ensures.answered
