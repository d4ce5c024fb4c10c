use Rattle.std.proofs.Common.{◌^◌, ◌∙◌}
use Rattle.text.proofs.Readings.{reads_on, reads_fit, reads_none, reads_all}
use Rattle.text.proofs.numbers.digits_value.Goals as goal

pub returns-in_err-n : goal.returns-in_err-n
returns-in_err-n c =
    let h = c.in_err-n.ensures in
    rw c.from_residual.ensures (reads_none (2 ^ 64) c.loop-b.n c.args.bytes.now c.loop-b.b-index c.loop-b-test.true h ∙ c.loop-b.invariant.1)

pub loop-b-preserved : goal.loop-b-preserved
loop-b-preserved c =
    let h = c.in_ok-n.ensures in (
      reads_fit (2 ^ 64) c.loop-b.n c.args.bytes.now c.loop-b.b-index c.loop-b-test.true c.in_ok-n.n h,
      reads_on (2 ^ 64) c.loop-b.n c.args.bytes.now c.loop-b.b-index c.loop-b-test.true c.in_ok-n.n h ∙ c.loop-b.invariant.1,
    )

pub returns : goal.returns
returns c = reads_all (2 ^ 64) c.loop-b.n c.args.bytes.now c.loop-b.b-index c.loop-b-test.false c.loop-b.invariant.0 ∙ c.loop-b.invariant.1
