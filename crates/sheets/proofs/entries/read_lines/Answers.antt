use Rattle.std.proofs.Common.{◌≡◌, ◌+◌, ◌<◌, [], ◌∷◌, ◌++◌, map, length, Ok, sym, ap, ◌∙◌, arith, length-append}
use Rattle.text.specs.Lines.{lines, sheet}
use Rattle.text.specs.Given.{given}
use Rattle.sheets.specs.History.{says}
use Rattle.sheets.specs.Entries.{deeds, kept}
use Rattle.sheets.proofs.MoreCalls.{six_bytes, deed_more, kept_more, deeds_more}
use Rattle.sheets.proofs.entries.read_lines.Goals as goal

pub loop-line-preserved : goal.loop-line-preserved
loop-line-preserved c =
    let cols = c.args.columns.now in
    let i = c.loop-line.invariant in
    let s = c.in-Some.ensures.steps in
    let l = given c.in-Some.line in
    let rest = lines c.next.new.self.rest.now in
    let d = c.in-Ok.deed in
    let n = c.loop-line.calls in
    let before = i.2.0 in
    let e : says cols l ≡ Ok d = sym c.says.ensures ∙ c.in-Ok.is in
    let bytes = six_bytes cols l rest d e in
    let room : n < length c.loop-line.entries = omega (arith, i.0, ap (λ ls. length (sheet ls)) s, bytes, c.requires.room, c.loop-line.auto.entries) in (
      omega (arith, i.0, ap (λ ls. length (sheet ls)) s, bytes),
      i.1 ∙ ap (λ ls. kept (n + 2) (map (says cols) ls)) s ∙ kept_more cols l rest d e (n + 2) (n + 1 + 2) (omega arith),
      (
        before ++ (d ∷ []),
        omega (arith, length-append before (d ∷ []), i.2.1),
        deed_more c.loop-line.entries n c.unanswered.result before d room c.unanswered.ensures.call i.2.2,
        i.2.3 ∙ ap (λ ls. before ++ deeds (map (says cols) ls)) s ∙ deeds_more cols l rest d e before,
      ),
    )
