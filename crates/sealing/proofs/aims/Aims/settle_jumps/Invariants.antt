use Rattle.std.proofs.Common.{◌≡◌, map, take, drop}
use Rattle.records.specs.Records.{label_of, jump_of}
use Rattle.sealing.specs.Sealing.{noted, laid}
use Rattle.sealing.proofs.aims.Aims.settle_jumps.Given as goal

-- the first k are noted; those that are left give the rest
abbrev pub invariant-loop-k : goal.invariant-loop-k
invariant-loop-k g l =
    (l.jumps ≡ noted (map label_of l.fn.self.labels.now) l.k l.initial.jumps)
    × (laid (map label_of l.fn.self.labels.now) l.fn.self.used (map jump_of (take l.count l.initial.jumps)) (g.S.Store.halfwords l.initial.store)
    ≡ laid (map label_of l.fn.self.labels.now) l.fn.self.used (map jump_of (drop l.k (take l.count l.initial.jumps))) (g.S.Store.halfwords l.store))
