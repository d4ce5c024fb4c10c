use Rattle.std.proofs.Common.{arith, ◌%◌, sym, ◌∙◌, ap, w64}
use lib.Signed.{mag}
use lib.IntN.{nat_abs}
use Rattle.std.proofs.lemmas.Bool.Decides.{nat_tests}
use Rattle.std.proofs.lemmas.Int.{to_z-of_z}
use Rattle.std.proofs.lemmas.Nat.{one_shl}
use Rattle.operands.specs.Ranges.{Even}
use Rattle.operands.proofs.Widths.{reach_below, near_reach, far_reach}
use Rattle.operands.proofs.range.reaches.Goals as goal

pub returns-then-width-gt62 : goal.returns-then-width-gt62
returns-then-width-gt62 c =
    let z = c.args.value in
    let a = c.unsigned_abs.ensures.value ∙ ap nat_abs (to_z-of_z w64 z c.ranges.value) in
    let v : Even z = ap (λ n. n % 2) (sym a) ∙ c.if-unsigned_abs-eq0.true in
    let h = c.if-width-gt62.true in
    ((λ _. far_reach c.args.width z c.ranges.value.sfits h v), (λ _. grind (arith, nat_tests)))

pub returns-else-width-gt62 : goal.returns-else-width-gt62
returns-else-width-gt62 c =
    let k = c.args.width in
    let z = c.args.value in
    let t = to_z-of_z w64 z c.ranges.value in
    let a = c.unsigned_abs.ensures.value ∙ ap nat_abs t in
    let v : Even z = ap (λ n. n % 2) (sym a) ∙ c.if-unsigned_abs-eq0.true in
    let e = c.magnitude.ensures ∙ ap mag t in
    let s = one_shl k 64 (omega arith) in
    ((λ b. near_reach k z (grind (arith, nat_tests)) v), (λ r. let m = reach_below k z r in grind (arith, nat_tests)))
