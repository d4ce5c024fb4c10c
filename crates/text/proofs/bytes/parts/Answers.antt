use Rattle.std.proofs.Common.{ℕ, Bool, ◌==◌, ap, arith}
use Rattle.std.specs.List.{count_by}
use Rattle.std.proofs.lemmas.List.{take_all}
use Rattle.std.proofs.lemmas.List.Splits.{length-slice_split}
use Rattle.text.proofs.bytes.parts.Goals as goal

pub returns : goal.returns
returns c =
    let is_mark : ℕ → Bool = λ b. b == c.args.mark in
    let all_read = ap (count_by is_mark) (take_all c.loop-b.b-index c.args.bytes.now (omega (arith, c.loop-b-test.false))) in
    omega (arith, c.loop-b.invariant, all_read, length-slice_split is_mark c.args.bytes.now)
