use Rattle.std.proofs.Common.{◌≡◌, ◌-◌, ℕ, List, [], map, take, length}
use Rattle.lives.specs.Life.{call_of}
use Rattle.lives.specs.Tied.{OpenLife}
use Rattle.programs.proofs.run.run_open.Given as goal

abbrev pub invariant-loop-k : goal.invariant-loop-k
invariant-loop-k g l =
    (map call_of l.entries ≡ map call_of l.initial.entries)
    × ((first : List ℕ) → OpenLife first [] l.initial.program.counts l.initial.book (g.S.Store.halfwords l.initial.store) → OpenLife first (take l.k l.entries) l.program.counts l.book (g.S.Store.halfwords l.store))

abbrev pub decreases-loop-k : goal.decreases-loop-k
decreases-loop-k g l = length l.initial.entries - l.k
