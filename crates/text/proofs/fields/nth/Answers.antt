use Rattle.std.proofs.Common.{refl}
use Rattle.std.proofs.lemmas.Iterator.Consumers.{nth_from_yields_List, YieldsList-from_first}
use Rattle.text.specs.Fields.{parts_from}
use Rattle.text.specs.Shown.{shown}
use Rattle.text.proofs.fields.nth.Goals as goal

pub returns : goal.returns
returns c =
    let s = c.args.fields in
    nth_from_yields_List c.nth.result c.nth.new.self c.args.k c.nth.ensures.ran (YieldsList-from_first shown (λ s. parts_from s.line.now s.next) (parts_from s.line.now s.next) refl)
