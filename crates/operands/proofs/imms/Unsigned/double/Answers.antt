use Rattle.std.proofs.Common.{SFits, ◌≡◌, arith, ◌<◌, ◌^◌, ℤ, pos, negsuc, ◌*ℤ◌, sym, subst, ◌∙◌, ap, w64, to_z, of_z}
use lib.Signed.{mag}
use Rattle.std.proofs.lemmas.Int.{to_z-of_z, ints}
use Rattle.operands.specs.Ranges.{Reach, halved}
use Rattle.operands.proofs.Widths.{in_reach, halved_twice}
use Rattle.operands.proofs.imms.Unsigned.double.Goals as goal

two_fits : (z : ℤ) → mag z < 2 ^ 32 → SFits w64 (pos 2 *ℤ z)
two_fits (pos n) h = record { sfits = grind (arith, ints) }
two_fits (negsuc n) h = record { sfits = grind (arith, ints) }

twice : (z : ℤ) → mag z < 2 ^ 32 → to_z w64 (of_z w64 (pos 2 *ℤ to_z w64 (of_z w64 z))) ≡ pos 2 *ℤ z
twice z h =
    let e = to_z-of_z w64 z (record { sfits = omega arith }) in
    let f = subst (λ y. SFits w64 (pos 2 *ℤ y)) (sym e) (two_fits z h) in
    to_z-of_z w64 _ f ∙ ap (λ y. pos 2 *ℤ y) e

pub returns : goal.returns
returns g c =
    let k = g.row.WIDTH in
    let r = c.from.type_inv in
    let h = subst (λ n. n < 2 ^ k) (sym c.from.ensures) c.args.self.ok in
    let e = twice c.sign.result (let n = c.sign.ensures.near in omega arith) ∙ ap (λ y. pos 2 *ℤ y) c.sign.ensures.is in
    record {
      reach = subst (Reach k) (sym e) (in_reach k c.from.result h);
      is = ap (halved k) e ∙ halved_twice k c.from.result h ∙ c.from.ensures;
    }
