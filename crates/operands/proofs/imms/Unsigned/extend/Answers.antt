use Rattle.std.proofs.Common.{◌<◌, ◌^◌, ap, ◌∙◌, subst, sym, w64}
use Rattle.std.proofs.lemmas.Int.{to_z-of_z}
use Rattle.bits.specs.Twos.{twos}
use Rattle.bits.proofs.Twos.{twos-signed}
use Rattle.operands.specs.Ranges.{Within}
use Rattle.operands.proofs.Widths.{within}
use Rattle.operands.proofs.imms.Unsigned.extend.Goals as goal

pub returns : goal.returns
returns g c =
    let k = g.row.WIDTH in
    let h = subst (λ n. n < 2 ^ k) (sym c.from.ensures) c.args.self.ok in
    let e = to_z-of_z w64 c.sign.result (record { sfits = c.sign.type_inv }) ∙ c.sign.ensures.is in
    record {
      within = subst (Within k) (sym e) (within k c.from.result h);
      is = ap (twos k) e ∙ twos-signed k c.from.result h ∙ c.from.ensures;
    }
