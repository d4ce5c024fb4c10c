use Rattle.std.proofs.Common.{◌≡◌, ap, ◌∙◌, arith, w64, to_z, of_z}
use Rattle.std.proofs.lemmas.Int.{ints}
use Rattle.std.specs.Ordering.{int_eq}
use Rattle.operands.specs.Ranges.{made}
use Rattle.replay.proofs.Pairs.{pair_tells}
use Rattle.replay.proofs.constants.makes.Goals as goal

pub returns-in-Some : goal.returns-in-Some
returns-in-Some c =
    let e : to_z w64 (of_z w64 c.args.value) ≡ c.args.value = omega (arith, ints, c.ranges.value.sfits) in
    c.same.ensures
    ∙ pair_tells c.in-Some.h c.in-Some.l (to_z w64 (of_z w64 c.args.value)) c.args.high c.args.low c.in-Some.ensures.is c.in-Some.ensures.only
    ∙ ap (λ v. int_eq (made c.args.high.value c.args.low.value) v) e
