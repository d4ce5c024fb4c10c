use Rattle.std.proofs.Common.{◌≡◌, ◌+◌, ◌*◌, ◌≤◌, List, ◌++◌, map, length, take}
use Rattle.text.specs.Lines.{lines, sheet}
use Rattle.lives.specs.declared.types.Deed.{Deed}
use Rattle.lives.specs.declared.types.Call.TheVariants.{Do}
use Rattle.lives.specs.Life.{call_of}
use Rattle.sheets.specs.History.{says}
use Rattle.sheets.specs.Entries.{deeds, kept}
use Rattle.sheets.proofs.entries.read_lines.Given as goal

-- the calls read so far stand in front, and the lines that are left give the rest; each call read had six bytes
abbrev pub invariant-loop-line : goal.invariant-loop-line
invariant-loop-line l =
    (6 * l.calls + length (sheet (lines l.line-iterator.rest.now)) ≤ 4096)
    × (kept 2 (map (says l.columns) (lines l.fn.lines.rest.now)) ≡ kept (l.calls + 2) (map (says l.columns) (lines l.line-iterator.rest.now)))
    × ((before : List Deed)
    × (length before ≡ l.calls)
    × (map call_of (take l.calls l.entries) ≡ map Do before)
    × (deeds (map (says l.columns) (lines l.fn.lines.rest.now)) ≡ before ++ deeds (map (says l.columns) (lines l.line-iterator.rest.now))))
