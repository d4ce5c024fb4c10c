use Rattle.std.proofs.Common.{arith, pow_mono}
use Rattle.std.proofs.lemmas.Bool.Decides.{nat_tests}
use Rattle.std.proofs.lemmas.Int.{ints}
use Rattle.bits.proofs.signs.sign.Goals as goal

pub returns-then-width-gt32-clause-is : goal.returns-then-width-gt32-clause-is
returns-then-width-gt32-clause-is c =
    let p = pow_mono {i = 33} {j = c.args.width} c.if-width-gt32.true in
    let r = c.ranges.bits.fits in
    let e = c.from.ensures in
    grind (arith, nat_tests, ints)
