use Rattle.std.proofs.Common.{◌≡◌, true, sym, subst}
use Rattle.instructions.specs.Faults.{lawful}
use Rattle.instructions.specs.Words.{word_of}
use Rattle.instructions.proofs.Forms.{Agrees, form_agrees}
use Rattle.reading.specs.Reading.{ReadsAs}
use Rattle.reading.proofs.Apart.{Fixes, form_fixes}
use Rattle.reading.proofs.Steps.{narrows, not_bits, not_values, read_checked}
use Rattle.reading.proofs.word.read_as.Goals as goal

pub returns-then-w-form : goal.returns-then-w-form
returns-then-w-form c =
    let r = c.known_form-known.result.form in
    let e = c.known_form-known.ensures.is in
    let x = subst Fixes (sym e) (form_fixes c.args.op.place c.args.op.real) in
    record { none = λ f t v. not_bits r c.args.w x c.if-w-form.true f (subst (λ r. word_of r f ≡ c.args.w) (sym e) v) }

pub returns-in_err-v : goal.returns-in_err-v
returns-in_err-v c =
    let r = c.known_form-known.result.form in
    let e = c.known_form-known.ensures.is in
    let a = subst Agrees (sym e) (form_agrees c.args.op.place c.args.op.real) in
    subst (ReadsAs c.args.op.place c.args.w) (sym c.from_residual.ensures)
    (record { none = λ f t v. not_values r c.args.w a c.in_err-v.ensures f (subst (λ r. lawful r f ≡ true) (sym e) t) (subst (λ r. word_of r f ≡ c.args.w) (sym e) v) })

pub fields_of-requires : goal.fields_of-requires
fields_of-requires c =
    let e = c.known_form-known.ensures.is in
    let a = subst Agrees (sym e) (form_agrees c.args.op.place c.args.op.real) in
    record { narrow = narrows c.known_form-known.result.form c.in_ok-v.v a c.in_ok-v.ensures.0 }

pub returns : goal.returns
returns c =
    subst (ReadsAs c.args.op.place c.args.w) (sym c.ok.ensures.value)
    (read_checked c.known_form-known.result.form c.args.w c.args.op c.in_ok-v.v c.fields_of.result c.checked.result
    c.known_form-known.ensures.is c.in_ok-v.ensures c.fields_of.ensures c.checked.ensures.answer)
