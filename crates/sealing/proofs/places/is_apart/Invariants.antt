use Rattle.std.proofs.Common.{◌≡◌, map, drop}
use Rattle.records.specs.Records.{jump_of}
use Rattle.sealing.specs.Sealing.{apart}
use Rattle.sealing.proofs.places.is_apart.Given as goal

-- the jumps that are left decide
abbrev pub invariant-loop-other : goal.invariant-loop-other
invariant-loop-other g l = apart (g.S.Store.halfwords l.store) (map jump_of l.jumps) l.place ≡ apart (g.S.Store.halfwords l.store) (map jump_of (drop l.other-index l.jumps)) l.place
