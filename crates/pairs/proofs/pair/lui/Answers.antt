use Rattle.std.proofs.Common.{sym}
use Rattle.pairs.proofs.Words.{lui_is}
use Rattle.pairs.proofs.pair.lui.Goals as goal

pub returns : goal.returns
returns c = sym lui_is
