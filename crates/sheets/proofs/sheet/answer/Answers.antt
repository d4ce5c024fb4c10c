use Rattle.std.proofs.Common.{◌≡◌, length, take, ap, ◌∙◌, subst, Ok, arith}
use Rattle.text.specs.Lines.{lines}
use Rattle.printing.specs.Printed.{words_text}
use Rattle.sheets.specs.History.{history}
use Rattle.sheets.proofs.Rows.{words_answer, holds_within}
use Rattle.sheets.proofs.sheet.answer.Goals as goal

pub print_words-requires : goal.print_words-requires
print_words-requires c =
    let m = c.in-Ok.ensures in
    let room = ap length c.new-store.ensures in
    record { few = omega (arith, m.1.2, room); stored = omega (arith, m.1.1, holds_within m.0 c.assemble.new.store.halfwords m.1.3) }

pub returns-in-Ok : goal.returns-in-Ok
returns-in-Ok c =
    let m = c.in-Ok.ensures in
    let room = ap length c.new-store.ensures in
    c.print_words.ensures
    ∙ ap (λ n. words_text (take n c.assemble.new.store.halfwords)) m.1.1
    ∙ words_answer c.args.input.now m.0 c.assemble.new.store.halfwords (subst (λ n. history n (lines c.args.input.now) ≡ Ok m.0) room m.1.0) m.1.3
