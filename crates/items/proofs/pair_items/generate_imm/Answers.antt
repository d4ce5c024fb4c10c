use Rattle.std.proofs.lemmas.Int.{to_z-of_z}
use Rattle.items.proofs.Answered.{generated}
use Rattle.items.proofs.pair_items.generate_imm.Goals as goal

pub returns : goal.returns
returns c = let f = c.ranges.value in generated c.generate_imm.result c.args.value (simp to_z-of_z at c.generate_imm.ensures.is)
