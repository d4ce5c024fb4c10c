use Rattle.instructions.proofs.Lawfuls.{lawful_exactly}
use Rattle.instructions.proofs.laws.fields_stand.Goals as goal

pub returns : goal.returns
returns c = lawful_exactly
