use Rattle.std.proofs.Common.{◌≡◌, ◌+◌, map, drop}
use Rattle.std.specs.List.{slice_get}
use Rattle.lives.specs.Life.{call_of}
use Rattle.sheets.specs.Entries.{call_lines}
use Rattle.sheets.proofs.refusals.jump_line.Given as goal

-- the jump is the one that many jumps later among the calls that are left
abbrev pub invariant-loop-index : goal.invariant-loop-index
invariant-loop-index l = slice_get (call_lines 2 (map call_of l.entries)) l.jump ≡ slice_get (call_lines (l.index + 2) (map call_of (drop l.index l.entries))) l.before
