use Rattle.std.proofs.Common.{◌≡◌, ◌-◌, ◌≤◌, false, ℕ, List, map, take, length}
use Rattle.lives.specs.Life.{call_of}
use Rattle.lives.specs.Tied.{TryLife}
use Rattle.programs.proofs.run.run_try.Given as goal

abbrev pub invariant-loop-k : goal.invariant-loop-k
invariant-loop-k g l =
    (l.from ≤ l.k) × (l.k ≤ length l.entries) × (map call_of l.entries ≡ map call_of l.initial.entries) × (l.t.kept ≡ false) × (l.t.saved ≡ l.initial.t.saved) × (l.t.counts.ghost_name ≡ l.initial.t.counts.ghost_name)
    × ((first : List ℕ) → TryLife first (take l.from l.initial.entries) l.initial.t.saved l.initial.t.saved l.initial.book (g.S.Store.halfwords l.initial.store)
    → TryLife first (take l.k l.entries) l.t.counts.now l.initial.t.saved l.book (g.S.Store.halfwords l.store))

abbrev pub decreases-loop-k : goal.decreases-loop-k
decreases-loop-k g l = length l.initial.entries - l.k
