use Rattle.aiming.proofs.Known.{instruction_of_exactly}
use Rattle.aiming.proofs.laws.instructions_stand.Goals as goal

pub returns : goal.returns
returns c = instruction_of_exactly
