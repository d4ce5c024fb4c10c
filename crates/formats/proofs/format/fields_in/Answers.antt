use Rattle.std.proofs.Common.{◌≡◌, Some, sym, ap, ◌∙◌, subst}
use Rattle.bits.specs.Layout.{word, Fit}
use Rattle.bits.proofs.Layouts.{picks_fit, picks_only, picks-word}
use Rattle.formats.proofs.format.fields_in.Goals as goal

pub returns-then-join-w-clause-back : goal.returns-then-join-w-clause-back
returns-then-join-w-clause-back c =
    let s = c.args.layout.now.parts.now in
    λ v f e. absurd (c.if-join-w.true (c.join.ensures ∙ ap (word s) c.picked-v.ensures ∙ picks-word s v c.args.w c.requires e))

pub returns-clause-forth : goal.returns-clause-forth
returns-clause-forth c =
    let s = c.args.layout.now.parts.now in
    λ v q. let is : c.picked-v.result ≡ v = cc in
    (subst (Fit s) (sym c.picked-v.ensures ∙ is) (picks_fit s c.args.w c.requires), ap (word s) (sym is) ∙ sym c.join.ensures ∙ c.if-join-w.false)

pub returns-clause-back : goal.returns-clause-back
returns-clause-back c =
    let s = c.args.layout.now.parts.now in
    λ v f e. ap Some (c.picked-v.ensures ∙ picks_only s v c.args.w c.requires f e)
