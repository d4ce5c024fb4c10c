use Rattle.std.proofs.Common.{ap, ◌∙◌, ap₂}
use Rattle.formats.specs.Layouts.{size}
use Rattle.operations.specs.declared.operation.Operation.{Operation}
use Rattle.operations.specs.Manual.{form_at}
use Rattle.instructions.specs.Words.{halfwords_of}
use Rattle.pairs.proofs.Words.{lui_lawful, lui_size, spelled_lawful}
use Rattle.pairs.proofs.pair.upper_of.Goals as goal

pub of-requires : goal.of-requires
of-requires c =
    spelled_lawful c.lui.ensures c.lui_fields.ensures (lui_lawful c.args.register.number c.args.high.value c.args.register.ok c.args.high.ok)

pub returns : goal.returns
returns c =
    let p = ap (λ (o : Operation). o.place) c.of.ensures.op ∙ c.lui.ensures in
    record {
      halfwords = ap₂ halfwords_of p (c.of.ensures.fields ∙ c.lui_fields.ensures);
      two = ap (λ k. size (form_at k).kind) p ∙ lui_size;
    }
