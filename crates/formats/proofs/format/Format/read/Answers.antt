use Rattle.std.proofs.Common.{Some, refl, subst}
use Rattle.bits.specs.Layout.{Fit}
use Rattle.formats.proofs.Made.{fits_of}
use Rattle.formats.proofs.format.Format.read.Goals as goal

pub make-requires : goal.make-requires
make-requires g c =
    let v = c.in_ok-v.v in
    fits_of g.Self.Format.kind v (subst (λ s. Fit s v) c.layout.ensures (c.in_ok-v.ensures.forth v (refl {a = Some v})).0)
