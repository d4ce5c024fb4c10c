use Rattle.std.proofs.Common.{◌≡◌, ◌≤◌, ◌++◌, length, take, map}
use Rattle.text.specs.Lines.{lines}
use Rattle.lives.specs.Life.{call_of}
use Rattle.scripts.specs.Script.{says, all_edits, calls, shown_call}
use Rattle.scripts.proofs.listing.list_calls.Given as goal

-- the calls so far stand at the front, those of the lines left are to come, and so are their slots and values
abbrev pub invariant-loop-line : goal.invariant-loop-line
invariant-loop-line l =
    (goal.iterator-loop-line).can_next l.line-iterator ×
    (goal.iterator-loop-line).is_finite l.line-iterator ×
    (l.count ≤ length l.entries) × (length l.entries ≡ length l.initial.entries) ×
    (l.rest ≡ all_edits (says (lines l.line-iterator.rest.now))) ×
    (calls (says (lines l.fn.lines.rest.now)) ≡ map shown_call (map call_of (take l.count l.entries)) ++ calls (says (lines l.line-iterator.rest.now)))
