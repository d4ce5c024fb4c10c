use Rattle.std.proofs.lemmas.Int.{to_z-of_z}
use Rattle.aiming.specs.Standing.{listed_of}
use Rattle.items.specs.Items.{item_of}
use Rattle.items.proofs.Leaps.{aimed_jump}
use Rattle.items.proofs.jump_items.aim_by.Goals as goal

pub returns : goal.returns
returns c = λ j. let f = c.ranges.distance in aimed_jump (item_of c.args.jump.now) c.args.distance (listed_of c.aimed_halfwords.result) j (simp to_z-of_z at c.aimed_halfwords.ensures)
