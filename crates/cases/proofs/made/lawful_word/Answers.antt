use Rattle.std.proofs.Common.{sym, ap, ◌∙◌}
use Rattle.std.specs.Option.{option_map}
use Rattle.instructions.specs.Words.{the_word}
use Rattle.cases.proofs.Answered.{lawful_word_is}
use Rattle.cases.proofs.made.lawful_word.Goals as goal

pub returns-in_err-made : goal.returns-in_err-made
returns-in_err-made c =
    c.from_residual.ensures
    ∙ sym (lawful_word_is c.args.op c.args.fields c.instruction.result c.instruction.ensures ∙ ap (option_map the_word) (sym c.ok.ensures.value ∙ c.in_err-made.was))

pub returns : goal.returns
returns c =
    c.read_back.ensures
    ∙ sym (lawful_word_is c.args.op c.args.fields c.instruction.result c.instruction.ensures ∙ ap (option_map the_word) (sym c.ok.ensures.value ∙ c.in_ok-made.was))
