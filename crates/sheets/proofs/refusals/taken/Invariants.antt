use Rattle.std.proofs.Common.{◌≡◌, ◌+◌, map, drop}
use Rattle.lives.specs.Life.{call_of}
use Rattle.sheets.specs.Entries.{answer_of, call_lines, first_fault}
use Rattle.sheets.proofs.refusals.taken.Given as goal

-- the first refused call is the first of those that are left
abbrev pub invariant-loop-index : goal.invariant-loop-index
invariant-loop-index l =
    let js = call_lines 2 (map call_of l.entries) in
    first_fault js 2 (map answer_of l.entries) ≡ first_fault js (l.index + 2) (map answer_of (drop l.index l.entries))
