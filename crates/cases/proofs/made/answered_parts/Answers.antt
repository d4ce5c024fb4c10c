use Rattle.std.proofs.Common.{sym, ◌∙◌, w64}
use Rattle.std.proofs.lemmas.Int.{to_z-of_z}
use Rattle.cases.proofs.Answered.{generated_some}
use Rattle.cases.proofs.made.answered_parts.Goals as goal

pub returns : goal.returns
returns c =
    let e = c.in_ok-high.ensures.is ∙ to_z-of_z w64 c.args.value c.ranges.value in
    sym (generated_some c.args.value c.in_ok-high.high c.in_ok-high.low c.parts_of.result e c.parts_of.ensures.high c.parts_of.ensures.low)
