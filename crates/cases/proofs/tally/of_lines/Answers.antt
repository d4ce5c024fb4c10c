use Rattle.std.proofs.Common.{◌≡◌, ◌+◌, ◌∷◌, Ok, refl, ◌∙◌, arith}
use Rattle.text.specs.Lines.{lines}
use Rattle.text.specs.Given.{given}
use Rattle.cases.specs.Tallies.{line_count}
use Rattle.cases.proofs.Counts.{line_count-le}
use Rattle.cases.proofs.tally.of_lines.Goals as goal

pub overflow_add-tally : goal.overflow_add-tally
overflow_add-tally c =
    let rest = c.next.new.self.rest.now in
    let more : line_count (lines c.loop-line.line-iterator.rest.now) ≡ line_count (given (Ok c.in-Ok.line) ∷ lines rest) = cc (c.in-Some.ensures.steps, c.in-Ok.is) in
    let one : line_count (given (Ok c.in-Ok.line) ∷ lines rest) ≡ 1 + line_count (lines rest) = refl in
    omega (arith, line_count-le c.args.text.now, c.loop-line.invariant.counted, more ∙ one)
