use Rattle.std.proofs.Common.{rules}
use Rattle.std.proofs.lemmas.List.{take_rest}
use Rattle.text.specs.Given.{given}
use Rattle.text.specs.Lines.{lines}
use Rattle.scripts.specs.Lines.{shown}
use Rattle.scripts.proofs.Written.{joined, line_more}
use Rattle.scripts.proofs.answering.write_answers.Goals as goal

pub loop-line-preserved : goal.loop-line-preserved
loop-line-preserved g c =
    let i = c.loop-line.invariant in
    let r = c.in_ok-done.ensures in (
      tt,
      tt,
      search rules,
      (
        _,
        joined _ _ _ _ _ i.3.1 r.2,
        line_more _ i.3.0 _ (lines c.next.new.self.rest.now) (given c.in-Some.line) (shown c.said_of.result) c.args.answers.now _ c.loop-line.done c.in_ok-done.field-0 (take_rest c.args.answers.now c.loop-line.done) c.in-Some.ensures.steps c.said_of.ensures r.1 i.3.2,
      ),
    )
