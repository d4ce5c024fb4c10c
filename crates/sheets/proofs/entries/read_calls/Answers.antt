use Rattle.std.proofs.Common.{◌<◌, map, length, sym, ap, ◌∙◌, arith}
use Rattle.std.specs.Result.{is_err}
use Rattle.text.specs.Lines.{lines}
use Rattle.lives.specs.declared.types.Call.TheVariants.{Do, Seal}
use Rattle.sheets.specs.History.{says}
use Rattle.sheets.specs.Entries.{deeds}
use Rattle.sheets.proofs.MoreCalls.{one_more, without_seal, with_seal}
use Rattle.sheets.proofs.entries.read_calls.Goals as goal

pub returns-then-is_err-clause-entries : goal.returns-then-is_err-clause-entries
returns-then-is_err-clause-entries c =
    let xs = map (says c.args.columns.now) (lines c.args.lines.rest.now) in
    let r = c.read_lines-calls in
    r.ensures.entries ∙ sym (without_seal 2 xs (ap is_err (sym r.ensures.kept) ∙ sym c.is_err.ensures.value ∙ c.if-is_err.true))

pub returns-clause-entries : goal.returns-clause-entries
returns-clause-entries c =
    let xs = map (says c.args.columns.now) (lines c.args.lines.rest.now) in
    let r = c.read_lines-calls in
    let room : r.result.calls < length r.new.entries = omega (arith, r.ensures.few, r.auto.entries, c.requires.room) in
    one_more r.new.entries r.result.calls c.unanswered.result Seal (map Do (deeds xs)) room c.unanswered.ensures.call r.ensures.entries
    ∙ sym (with_seal 2 xs (ap is_err (sym r.ensures.kept) ∙ sym c.is_err.ensures.value ∙ c.if-is_err.false))
