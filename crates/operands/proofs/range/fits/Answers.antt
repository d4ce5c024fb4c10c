use Rattle.std.proofs.Common.{arith, pow_mono}
use Rattle.std.proofs.lemmas.Bool.Decides.{nat_tests}
use Rattle.operands.proofs.range.fits.Goals as goal

pub returns-then-width-gt31 : goal.returns-then-width-gt31
returns-then-width-gt31 c =
    let p = pow_mono {i = 32} {j = c.args.width} c.if-width-gt31.true in
    let r = c.ranges.value.fits in
    ((λ _. omega arith), (λ _. grind (arith, nat_tests)))
