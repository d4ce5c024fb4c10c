use Rattle.std.proofs.Common.{sym, ap, ◌∙◌, subst, rules}
use denote.Enum.Bare.{same_true}
use Rattle.bits.specs.contracts.part.Field.{the_type}
use Rattle.bits.specs.Layout.{index, bits_in, Handy}
use Rattle.bits.proofs.Walks.{in_slice}
use Rattle.bits.proofs.layout.bits_in.Goals as goal

pub returns-then-eq : goal.returns-then-eq
returns-then-eq c =
    let same = same_true the_type (search rules) _ _ (sym c.if-eq.ensures) in
    in_slice c.args.field c.in-Slice.of c.in-Slice.low c.in-Slice.width c.args.rest c.cut.result (subst Handy c.in-Slice.is c.requires) (ap index same) c.cut.ensures
    ∙ ap (λ p. bits_in c.args.field p c.args.rest) (sym c.in-Slice.is)
