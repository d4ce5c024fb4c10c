use Rattle.std.proofs.Common.{◌≤◌, take}
use Rattle.std.specs.Io.KnownBytes.{Appends}
use Rattle.scripts.specs.Script.{halves_text}
use Rattle.scripts.proofs.answering.write_halves.Given as goal

-- the halfwords before the place are written
abbrev pub invariant-loop-place : goal.invariant-loop-place
invariant-loop-place g l =
    (l.place ≤ l.fn.used) × Appends (g.W.Write.contents l.initial.out) (g.W.Write.contents l.out) (halves_text (take l.place (g.S.Store.halfwords l.store)))
