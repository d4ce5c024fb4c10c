use Rattle.std.proofs.Common.{◌≡◌, ◌≤◌, ◌++◌, length, take}
use Rattle.text.specs.Lines.{lines}
use Rattle.scripts.specs.Script.{says, all_edits}
use Rattle.scripts.proofs.gather.gather.Given as goal

-- what is gathered stands at the front, and the rest is to come
abbrev pub invariant-loop-line : goal.invariant-loop-line
invariant-loop-line l =
    (goal.iterator-loop-line).can_next l.line-iterator ×
    (goal.iterator-loop-line).is_finite l.line-iterator ×
    (l.end ≤ length l.pool) × (length l.pool ≡ length l.initial.pool) ×
    (all_edits (says (lines l.fn.lines.rest.now)) ≡ take l.end l.pool ++ all_edits (says (lines l.line-iterator.rest.now)))
