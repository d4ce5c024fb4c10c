use Rattle.std.proofs.Common.{ap, ◌∙◌}
use Rattle.replay.specs.Names.{meant}
use Rattle.replay.proofs.Names.{meant-map}
use Rattle.replay.proofs.name.called.Goals as goal

pub returns : goal.returns
returns g c = c.look_up.ensures ∙ meant-map c.names.result.now c.args.name.now ∙ ap (λ n. meant n c.args.name.now) c.names.ensures
