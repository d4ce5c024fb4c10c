use Rattle.std.proofs.Common.{ap, ◌∙◌, ap₂}
use Rattle.formats.specs.Layouts.{size}
use Rattle.operations.specs.declared.operation.Operation.{Operation}
use Rattle.operations.specs.Manual.{form_at}
use Rattle.instructions.specs.Words.{halfwords_of}
use Rattle.pairs.proofs.Words.{addi_lawful, addi_size, spelled_lawful}
use Rattle.pairs.proofs.pair.lower_of.Goals as goal

pub of-requires : goal.of-requires
of-requires c =
    spelled_lawful c.addi.ensures c.addi_fields.ensures (addi_lawful c.args.register.number c.args.low.value c.args.register.ok c.args.low.ok)

pub returns : goal.returns
returns c =
    let p = ap (λ (o : Operation). o.place) c.of.ensures.op ∙ c.addi.ensures in
    record {
      halfwords = ap₂ halfwords_of p (c.of.ensures.fields ∙ c.addi_fields.ensures);
      two = ap (λ k. size (form_at k).kind) p ∙ addi_size;
    }
