use Rattle.std.proofs.Common.{◌≡◌, [], map, take, drop}
use Rattle.records.specs.Records.{slot_of}
use Rattle.changing.specs.Changing.{changed_from}
use Rattle.changing.proofs.slots.Slots.test_edits.Given as goal

-- the entries that are left decide
abbrev pub invariant-loop-k : goal.invariant-loop-k
invariant-loop-k l = changed_from 0 (map slot_of l.fn.self.slots.now) l.fn.self.used [] l.edits ≡ changed_from l.k (map slot_of l.fn.self.slots.now) l.fn.self.used (take l.k l.edits) (drop l.k l.edits)
