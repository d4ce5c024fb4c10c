use Rattle.std.proofs.Common.{◌==◌, sym, ◌∙◌}
use Rattle.std.proofs.lemmas.Iterator.Adapters.{position_from-zero}
use Rattle.text.proofs.Places.{at_mark, past_byte, at_end}
use Rattle.text.proofs.bytes.place.Goals as goal

pub loop-k-init : goal.loop-k-init
loop-k-init c = sym (position_from-zero (λ b. b == c.args.mark) c.args.bytes.now)

pub returns-then-bytes-k : goal.returns-then-bytes-k
returns-then-bytes-k c = at_mark c.args.mark c.args.bytes.now c.loop-k.k c.loop-k-test.true c.if-bytes-k.true ∙ c.loop-k.invariant

pub loop-k-preserved : goal.loop-k-preserved
loop-k-preserved c = past_byte c.args.mark c.args.bytes.now c.loop-k.k c.loop-k-test.true c.if-bytes-k.false ∙ c.loop-k.invariant

pub returns : goal.returns
returns c = at_end c.args.mark c.args.bytes.now c.loop-k.k c.loop-k-test.false ∙ c.loop-k.invariant
