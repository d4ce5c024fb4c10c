use Rattle.std.proofs.Common.{ap, ◌∙◌}
use Rattle.scripts.specs.Lines.{said_of}
use Rattle.scripts.proofs.gather.said_of.Goals as goal

pub returns : goal.returns
returns c = c.of.ensures ∙ ap said_of c.text_of.ensures
