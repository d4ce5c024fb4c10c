use Rattle.std.proofs.Common.{sym}
use Rattle.items.specs.Items.{item_of, distance}
use Rattle.sealing.proofs.Settling.{lies}
use Rattle.sealing.proofs.aims.Aims.aimed.Goals as goal

pub returns-clause-inside : goal.returns-clause-inside
returns-clause-inside g c =
    lies (g.S.Store.halfwords c.args.store.now) c.args.self.now.used c.args.jump.now.place (item_of c.in_ok-standing.standing) (distance c.args.jump.now.place c.in_ok-goal.goal) c.aim_to.result
    (sym c.in_ok-standing.ensures.is) (c.aim_to.ensures c.in_ok-standing.ensures.jumps)
