use Rattle.std.proofs.Common.{◌∙◌}
use Rattle.pairs.proofs.Generated.{generated_pair}
use Rattle.items.specs.Items.{words}
use Rattle.items.specs.Pairs.{upper, lower}
use Rattle.items.proofs.pair_items.pair_halves.Goals as goal

pub returns : goal.returns
unfolding words upper lower
returns c = λ v e. c.pair_of.ensures ∙ generated_pair v c.args.high c.args.low e c.args.register.number
