use Rattle.std.proofs.Common.{◌≡◌, ◌-◌, ◌≤◌, length, take}
use Rattle.scripts.specs.Edits.{edits_from}
use Rattle.scripts.proofs.Filled.{behind}
use Rattle.scripts.proofs.edits.fill.Given as goal

-- the entries so far stand at the front, and the rest are to come
abbrev pub invariant-loop-k : goal.invariant-loop-k
invariant-loop-k l =
    (l.k ≤ length l.list) × (length l.list ≡ length l.initial.list) × (edits_from l.line 0 (length l.list) ≡ behind (take l.k l.list) (edits_from l.line l.k (length l.list - l.k)))
