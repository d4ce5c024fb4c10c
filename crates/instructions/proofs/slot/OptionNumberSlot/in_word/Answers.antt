use Rattle.std.proofs.Common.{◌≡◌, ◌+◌, ◌^◌, ◌<◌, true, Some, sym, ◌∙◌, subst, rules}
use lib.Signed.{mag}
use Rattle.bits.specs.Twos.{twos}
use Rattle.operations.specs.declared.row.Number.TheVariants.{Signed}
use Rattle.instructions.specs.Faults.{number_ok}
use Rattle.instructions.proofs.Constants.{quotient, near, twos_of}
use Rattle.instructions.proofs.slot.OptionNumberSlot.in_word.Goals as goal

pub unsign-requires-clause-near : goal.unsign-requires-clause-near
unsign-requires-clause-near c =
    let k = c.in-Some-Signed.width in
    let u = c.in-Some-Signed.unit in
    let w = c.in-Some-Signed.field-0-2 in
    let t : number_ok (Some (Signed k u w)) c.args.x ≡ true = search rules in
    let q = quotient u c.args.x c.from.result (search rules) (search rules) (search rules) c.from.ensures in
    subst (λ z. mag z + mag z < 2 ^ k) (sym q) (near k u w c.args.x (search rules) t)

pub returns-in-Some-Signed : goal.returns-in-Some-Signed
returns-in-Some-Signed c =
    let k = c.in-Some-Signed.width in
    let u = c.in-Some-Signed.unit in
    let w = c.in-Some-Signed.field-0-2 in
    let t : number_ok (Some (Signed k u w)) c.args.x ≡ true = search rules in
    let q = quotient u c.args.x c.from.result (search rules) (search rules) (search rules) c.from.ensures in
    let e = subst (λ z. c.unsign.result ≡ twos k z) q c.unsign.ensures ∙ twos_of k u w c.args.x (search rules) t in
    search rules
