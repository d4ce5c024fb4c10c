use Rattle.std.proofs.Common.{sym, ap, ◌∙◌, rules}
use Rattle.std.proofs.lemmas.List.{take_rest}
use Rattle.text.specs.Fields.{parts_from}
use Rattle.text.proofs.Commas.{parts_more, parts_last}
use Rattle.text.proofs.fields.FieldsIterator.next.Goals as goal

pub returns-in-Some-clause-steps : goal.returns-in-Some-clause-steps
returns-in-Some-clause-steps c =
    let line = c.args.self.now.line.now in
    ap (parts_from line) c.in_ok-from.was ∙ parts_more line c.in_ok-from.from c.in-Some.end _ _ (take_rest line c.in_ok-from.from) (sym c.in-Some.ensures) c.new.ensures

pub returns-in-Some-clause-goes : goal.returns-in-Some-clause-goes
returns-in-Some-clause-goes c = let s = returns-in-Some-clause-steps c in search rules

pub returns-in-None-clause-steps : goal.returns-in-None-clause-steps
returns-in-None-clause-steps c =
    let line = c.args.self.now.line.now in
    ap (parts_from line) c.in_ok-from.was ∙ parts_last line c.in_ok-from.from _ _ (take_rest line c.in_ok-from.from) (sym c.in-None.ensures) c.new-in-None.ensures
