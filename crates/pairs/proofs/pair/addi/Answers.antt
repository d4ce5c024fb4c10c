use Rattle.std.proofs.Common.{sym}
use Rattle.pairs.proofs.Words.{addi_is}
use Rattle.pairs.proofs.pair.addi.Goals as goal

pub returns : goal.returns
returns c = sym addi_is
