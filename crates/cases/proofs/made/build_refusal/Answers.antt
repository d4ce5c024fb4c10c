use Rattle.std.proofs.Common.{Some, sym, ap, ◌∙◌}
use Rattle.std.specs.Option.{option_map}
use Rattle.instructions.specs.Numbers.{refusal}
use Rattle.cases.proofs.Answered.{build_fault_is}
use Rattle.cases.proofs.made.build_refusal.Goals as goal

pub returns-in_err-fault : goal.returns-in_err-fault
returns-in_err-fault c =
    c.from_residual.ensures
    ∙ sym (ap (option_map refusal) (build_fault_is c.args.op c.args.fields c.build.result c.build.ensures ∙ sym c.err.ensures.value ∙ c.in_err-fault.was))

pub returns : goal.returns
returns c =
    ap Some c.number.ensures
    ∙ sym (ap (option_map refusal) (build_fault_is c.args.op c.args.fields c.build.result c.build.ensures ∙ sym c.err.ensures.value ∙ c.in_ok-fault.was))
