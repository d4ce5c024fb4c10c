use Rattle.std.proofs.Common.{◌≡◌, Some, ap, ◌∙◌, subst, w64}
use Rattle.std.proofs.lemmas.Int.{to_z-of_z}
use Rattle.std.specs.Result.{result_ok}
use Rattle.bits.specs.Layout.{word}
use Rattle.operands.specs.Ranges.{Reach, halved}
use Rattle.formats.specs.Layouts.{layout}
use Rattle.formats.specs.Lawful.{outcome}
use Rattle.formats.specs.Reaching.{with_n}
use Rattle.formats.proofs.reaching.word_at.Goals as goal

pub returns : goal.returns
returns g c =
    let k = layout g.F.Format.kind in
    let W = g.row.WIDTH in
    let p = c.in_ok-p.p in
    let m = c.in_ok-p.ensures in
    let d = to_z-of_z w64 c.args.d c.ranges.d in
    let w = word k (g.F.Format.values p) in
    let lawful = g.met.F.Reaching.kept c.args.o.now p _ c.requires m.0 in
    let is : c.ok.result ≡ Some w = c.ok.ensures.value ∙ ap result_ok (c.encode.ensures ∙ ap (λ f. outcome f w) lawful) in
    rw is (subst (Reach W) (m.1 ∙ d) (g.F.Reaching.distance p).ok, ap (word k) m.0 ∙ ap (λ b. word k (with_n (g.F.Format.values c.args.o.now) (halved W b))) d)
