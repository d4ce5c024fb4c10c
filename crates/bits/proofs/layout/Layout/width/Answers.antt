use Rattle.std.proofs.Common.{rules, tests, ◌<◌, sym, ◌∙◌, subst, arith}
use Rattle.std.proofs.lemmas.Iterator.{YieldsList-from_slice, YieldsList-from_map}
use Rattle.std.proofs.lemmas.Iterator.Consumers.{sum_by_from_yields_List, fits_by_from_yields_list}
use Rattle.bits.specs.Layout.{width}
use Rattle.bits.proofs.Walks.{total_le, total_sum}
use Rattle.bits.proofs.layout.Layout.width.Goals as goal

pub sum-requires-clause-fits : goal.sum-requires-clause-fits
sum-requires-clause-fits c =
    let s = c.args.self.now.parts.now in
    let l = total_le s c.args.self.now.handy in
    fits_by_from_yields_list width s c.map.result 4294967296 (YieldsList-from_map _ width (YieldsList-from_slice s cc) c.map.ensures.closure (λ x r q k. search (rules, tests))) (subst (λ n. n < 4294967296) (total_sum s) (omega arith))

pub returns : goal.returns
returns c =
    let s = c.args.self.now.parts.now in
    sum_by_from_yields_List width s c.map.result c.sum.result c.sum.ensures.ran (YieldsList-from_map _ width (YieldsList-from_slice s cc) c.map.ensures.closure (λ x r q k. search (rules, tests)))
    ∙ sym (total_sum s)
