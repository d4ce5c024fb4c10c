use Rattle.std.proofs.Common.{◌+◌, ◌/◌, ◌^◌, ◌<◌, get_or, drop, sym, ap, ◌∙◌, subst, ap₂, add-one}
use lib.Bits.{bit_or}
use Rattle.bits.specs.declared.part.Part.TheVariants.{Fixed}
use Rattle.bits.specs.Layout.{pick, width, bits_in}
use Rattle.bits.proofs.Walks.{handies_at, handy_width, pick-drop}
use Rattle.bits.proofs.layout.Layout.pick.Goals as goal

pub bits_in-found-requires : goal.bits_in-found-requires
bits_in-found-requires c = (handies_at c.args.self.now.parts.now c.loop-part.part-index (Fixed 0 0) c.args.self.now.handy c.loop-part-test.true).0

pub overflow_shr-rest : goal.overflow_shr-rest
overflow_shr-rest c =
    let s = c.args.self.now.parts.now in
    let i = c.loop-part.part-index in
    subst (λ n. n < 32) (sym c.width_of-rest.ensures) (handy_width (get_or s i (Fixed 0 0)) (handies_at s i (Fixed 0 0) c.args.self.now.handy c.loop-part-test.true).0)

pub loop-part-preserved : goal.loop-part-preserved
loop-part-preserved c =
    let s = c.args.self.now.parts.now in
    let i = c.loop-part.part-index in
    let f = c.args.field in
    let p = get_or s i (Fixed 0 0) in
    ap₂ (λ m n. pick (bit_or c.loop-part.found m) (drop (i + 1) s) f (c.loop-part.rest / 2 ^ n)) c.bits_in-found.ensures c.width_of-rest.ensures
    ∙ ap (λ k. pick (bit_or c.loop-part.found (bits_in f p c.loop-part.rest)) (drop k s) f (c.loop-part.rest / 2 ^ width p)) (add-one i)
    ∙ sym (pick-drop s c.loop-part.found f c.loop-part.rest i (Fixed 0 0) c.loop-part-test.true)
    ∙ c.loop-part.invariant
