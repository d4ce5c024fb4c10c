use Rattle.std.proofs.Common.{◌≡◌, true, sym, ap, ◌∙◌, subst, subst₂}
use Rattle.bits.specs.Layout.{Fit}
use Rattle.formats.specs.Layouts.{layout}
use Rattle.operations.specs.declared.row.Form.{Form}
use Rattle.operations.specs.declared.operation.Operation.{Operation}
use Rattle.operations.specs.Manual.{form_at}
use Rattle.instructions.specs.declared.fields.Fields.{Fields}
use Rattle.instructions.specs.declared.instruction.Instruction.{Instruction}
use Rattle.instructions.specs.Faults.{lawful}
use Rattle.instructions.proofs.Forms.{Agrees, form_agrees, raw_fits}
use Rattle.instructions.proofs.word.word_of.Goals as goal

-- a form and fields that are the instruction's
lawful_here : (i : Instruction) (r : Form) (f : Fields) → r ≡ form_at i.op.place → f ≡ i.fields → lawful r f ≡ true
lawful_here i r f e g = subst₂ (λ r f. lawful r f ≡ true) (sym e) (sym g) i.ok

agrees_here : (i : Instruction) (r : Form) → r ≡ form_at i.op.place → Agrees r
agrees_here i r e = subst Agrees (sym e) (form_agrees i.op.place i.op.real)

pub raw_of-values-requires : goal.raw_of-values-requires
raw_of-values-requires c =
    let i = c.args.i.now in
    let r = c.known_form-form.result.form in
    let e = c.known_form-form.ensures.is ∙ ap (λ (o : Operation). form_at o.place) c.op.ensures in
    lawful_here i r c.fields.result e c.fields.ensures

pub word_for-requires : goal.word_for-requires
word_for-requires c =
    let i = c.args.i.now in
    let r = c.known_form-form.result.form in
    let e = c.known_form-form.ensures.is ∙ ap (λ (o : Operation). form_at o.place) c.op.ensures in
    let l = lawful_here i r c.fields.result e c.fields.ensures in
    let fits = raw_fits r c.fields.result (agrees_here i r e) l in
    subst₂ (λ k v. Fit (layout k) v) (sym c.kind.ensures) (sym c.raw_of-values.ensures) fits
