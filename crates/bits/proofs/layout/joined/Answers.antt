use Rattle.std.proofs.Common.{◌-◌, ◌*◌, ◌+◌, ◌^◌, ◌<◌, length, drop, sym, ap, ◌∙◌, ap₂, subst₂, arith}
use Rattle.std.proofs.lemmas.List.{length_push}
use Rattle.std.proofs.lemmas.Iterator.Adapters.{YieldsList-from_rev_slice}
use Rattle.std.proofs.lemmas.Iterator.Consumers.{YieldsList-turn}
use Rattle.bits.specs.Layout.{word, value, width}
use Rattle.bits.proofs.Walks.{below, handy_width, room}
use Rattle.bits.proofs.Layouts.{value_lt}
use Rattle.bits.proofs.layout.joined.Goals as goal

pub value_of-requires : goal.value_of-requires
value_of-requires c =
    let s = c.args.parts.now in
    let t = YieldsList-turn (YieldsList-from_rev_slice s cc) c.loop-part.yielded _ c.loop-part.yielded_by _ _ c.in-Some.part c.in-Some.is c.next.ensures.steps in
    (below s (length c.loop-part.yielded) c.in-Some.part.now c.requires t).handy

pub overflow_sub-width : goal.overflow_sub-width
overflow_sub-width c =
    let s = c.args.parts.now in
    let p = c.in-Some.part.now in
    let t = YieldsList-turn (YieldsList-from_rev_slice s cc) c.loop-part.yielded _ c.loop-part.yielded_by _ _ c.in-Some.part c.in-Some.is c.next.ensures.steps in
    let w = handy_width p (below s (length c.loop-part.yielded) p c.requires t).handy in
    let e = c.width_of-width.ensures in
    omega arith

pub put-bits-requires : goal.put-bits-requires
put-bits-requires c =
    let s = c.args.parts.now in
    let p = c.in-Some.part.now in
    let n = length c.loop-part.yielded in
    let t = YieldsList-turn (YieldsList-from_rev_slice s cc) c.loop-part.yielded _ c.loop-part.yielded_by _ _ c.in-Some.part c.in-Some.is c.next.ensures.steps in
    let b = below s n p c.requires t in
    let e = c.width_of-width.ensures in
    let w = handy_width p b.handy in
    record {
      below = subst₂ (λ m k. m < 2 ^ k) (sym c.value_of.ensures) (sym e) (value_lt p c.args.v.now);
      narrow = subst₂ (λ m k. m < 2 ^ (32 - k)) (sym c.loop-part.invariant.1) (sym e) (room (drop (length s - n) s) c.args.v.now (width p) b.room);
      inside = omega arith;
      within = omega arith;
    }

pub loop-part-preserved : goal.loop-part-preserved
loop-part-preserved c =
    let s = c.args.parts.now in
    let v = c.args.v.now in
    let p = c.in-Some.part.now in
    let n = length c.loop-part.yielded in
    let t = YieldsList-turn (YieldsList-from_rev_slice s cc) c.loop-part.yielded _ c.loop-part.yielded_by _ _ c.in-Some.part c.in-Some.is c.next.ensures.steps in
    let b = below s n p c.requires t in
    let l = length_push c.loop-part.yielded c.in-Some.part in (
      omega (arith, b.within),
      c.put-bits.ensures
          ∙ ap₂ (λ x y. c.loop-part.bits * 2 ^ x + y) c.width_of-width.ensures c.value_of.ensures
          ∙ ap (λ x. x * 2 ^ width p + value p v) c.loop-part.invariant.1
          ∙ sym (b.joined v)
          ∙ ap (λ k. word (drop (length s - k) s) v) (sym l),
    )
