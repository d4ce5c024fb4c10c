use Rattle.std.proofs.Common.{sym, ◌∙◌}
use Rattle.sweep.proofs.outcome.read_and_write.Goals as goal

pub returns-then-word_of-word : goal.returns-then-word_of-word
returns-then-word_of-word c = (c.in-Some.i, sym c.word_of.ensures ∙ c.if-word_of-word.true)
