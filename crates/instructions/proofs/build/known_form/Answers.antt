use Rattle.std.proofs.Common.{sym, subst}
use Rattle.operations.specs.declared.row.Form.{Form}
use Rattle.instructions.specs.Faults.{Workable}
use Rattle.instructions.proofs.Forms.{form_agrees}
use Rattle.instructions.proofs.build.known_form.Goals as goal

pub invariant_of-result : goal.invariant_of-result
invariant_of-result c = record { works = subst (λ (r : Form). Workable r.n) (sym c.form_of-form.ensures) (form_agrees c.args.op.place c.args.op.real).works }
