use Rattle.std.proofs.Common.{sym, ◌∙◌}
use Rattle.instructions.proofs.Sizes.{by_word, one_small}
use Rattle.instructions.proofs.word.halfwords_of.Goals as goal

pub returns : goal.returns
returns c =
    let i = c.args.i.now in
    let w = c.word_of.result in
    let e = c.word_of.ensures in
    c.of.ensures.all (λ n. one_small i w e n) ∙ sym (by_word i w e)
