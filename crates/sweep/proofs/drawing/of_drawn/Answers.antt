use Rattle.std.proofs.Common.{◌/◌, ◌^◌, sym, refl, ap, ◌∙◌, add-one, arith}
use Rattle.sweep.specs.Outcomes.{none}
use Rattle.sweep.specs.Drawing.{stepped, state_after, drawn}
use Rattle.sweep.proofs.drawing.of_drawn.Goals as goal

pub loop-init : goal.loop-init
loop-init c = record { counted = none; all = omega arith; other = refl; state = refl }

pub loop-preserved : goal.loop-preserved
loop-preserved c =
    let n = c.loop.counter in
    let i = c.loop.invariant in
    record {
      counted = c.add.ensures.counted drawn n (sym (c.next_word.ensures.word ∙ ap (λ s. s / 2 ^ 32) i.state)) i.counted;
      all = omega (arith, c.add.ensures.all, i.all);
      other = c.add.ensures.other ∙ i.other;
      state = c.next_word.ensures.state ∙ ap stepped i.state ∙ sym (ap state_after (add-one n));
    }
