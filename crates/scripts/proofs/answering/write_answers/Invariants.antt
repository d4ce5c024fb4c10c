use Rattle.std.proofs.Common.{◌≡◌, List, ℕ, ◌≤◌, ◌++◌, length, map, drop}
use Rattle.std.specs.Io.KnownBytes.{Appends}
use Rattle.text.specs.Lines.{lines}
use Rattle.scripts.specs.Script.{says, answers_text, answer_of}
use Rattle.scripts.proofs.answering.write_answers.Given as goal

-- some text is written, and the rest is that of the lines and answers left
abbrev pub invariant-loop-line : goal.invariant-loop-line
invariant-loop-line g l =
    (goal.iterator-loop-line g).can_next l.line-iterator ×
    (goal.iterator-loop-line g).is_finite l.line-iterator ×
    (l.done ≤ length l.fn.answers) ×
    ((text : List ℕ) × Appends (g.W.Write.contents l.initial.out) (g.W.Write.contents l.out) text ×
    (answers_text (says (lines l.fn.lines.rest.now)) (map answer_of l.fn.answers) ≡ text ++ answers_text (says (lines l.line-iterator.rest.now)) (drop l.done (map answer_of l.fn.answers))))
