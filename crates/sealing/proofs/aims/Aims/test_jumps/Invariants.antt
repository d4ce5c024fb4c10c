use Rattle.std.proofs.Common.{◌≡◌, [], map, take, drop}
use Rattle.records.specs.Records.{label_of, jump_of}
use Rattle.sealing.specs.Sealing.{tested_from}
use Rattle.sealing.proofs.aims.Aims.test_jumps.Given as goal

-- the jumps that are left decide
abbrev pub invariant-loop-k : goal.invariant-loop-k
invariant-loop-k g l =
    tested_from 0 (map label_of l.fn.self.labels.now) (g.S.Store.halfwords l.store) l.fn.self.used [] (map jump_of l.jumps)
    ≡ tested_from l.k (map label_of l.fn.self.labels.now) (g.S.Store.halfwords l.store) l.fn.self.used (map jump_of (take l.k l.jumps)) (map jump_of (drop l.k l.jumps))
