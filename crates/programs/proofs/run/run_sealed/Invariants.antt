use Rattle.std.proofs.Common.{◌≡◌, ℕ, List, map, take}
use Rattle.lives.specs.Life.{call_of}
use Rattle.lives.specs.Tied.{SealedLife}
use Rattle.programs.proofs.run.run_sealed.Given as goal

abbrev pub invariant-loop-k : goal.invariant-loop-k
invariant-loop-k g l =
    (map call_of l.entries ≡ map call_of l.initial.entries)
    × ((first : List ℕ) → SealedLife first (take l.from l.initial.entries) l.sealed.counts l.book (g.S.Store.halfwords l.initial.store) → SealedLife first (take l.k l.entries) l.sealed.counts l.book (g.S.Store.halfwords l.store))
