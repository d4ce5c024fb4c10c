use Rattle.items.specs.Items.{jump_standing}
use Rattle.items.proofs.Leaps.{jumps_there}
use Rattle.items.proofs.jump_items.standing_at.Goals as goal

pub returns : goal.returns
unfolding jump_standing
returns g c =
    record {
      is = c.jump_at.ensures;
      jumps = jumps_there c.jump_at.result (g.S.Store.halfwords c.args.store.now) c.args.used c.args.place c.jump_at.ensures;
    }
