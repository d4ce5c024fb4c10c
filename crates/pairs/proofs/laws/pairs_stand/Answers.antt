use Rattle.pairs.proofs.Parts.{pair_makes}
use Rattle.pairs.proofs.Words.{pair_holds}
use Rattle.pairs.proofs.laws.pairs_stand.Goals as goal

pub returns : goal.returns
returns c = record { makes = pair_makes; holds = pair_holds }
