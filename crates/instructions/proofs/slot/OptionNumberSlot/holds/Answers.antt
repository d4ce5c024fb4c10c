use Rattle.std.proofs.Common.{IsTrue, ◌↔◌, subst, rules}
use Rattle.operands.specs.Ranges.{Within}
use Rattle.instructions.proofs.Constants.{quotient, remainder, held_ok}
use Rattle.instructions.proofs.slot.OptionNumberSlot.holds.Goals as goal

pub returns-then-x-unit-eq0 : goal.returns-then-x-unit-eq0
returns-then-x-unit-eq0 c =
    let k = c.in-Some-Signed.width in
    let u = c.in-Some-Signed.unit in
    let r = remainder u c.args.x c.from-unit.result (search rules) (search rules) c.from-unit.ensures c.if-x-unit-eq0.true in
    let q = quotient u c.args.x c.from-unit.result (search rules) (search rules) (search rules) c.from-unit.ensures in
    let h = held_ok k u c.in-Some-Signed.field-0-2 c.args.x c.holds.result r (subst (λ z. IsTrue c.holds.result ↔ Within k z) q c.holds.ensures) in
    search rules
