use Rattle.operations.proofs.Apart.{names_apart}
use Rattle.operations.proofs.names.names_stand.Goals as goal

pub returns : goal.returns
returns c = names_apart
