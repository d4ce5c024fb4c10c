use Rattle.std.proofs.Common.{◌≡◌, ◌≤◌, map, length, drop}
use Rattle.records.specs.Records.{slot_of}
use Rattle.changing.specs.Changing.{changed}
use Rattle.changing.proofs.slots.Slots.write_edits.Given as goal

-- the entries that are left give the rest; the length stays
abbrev pub invariant-loop-edit : goal.invariant-loop-edit
invariant-loop-edit g l =
    (changed (map slot_of l.fn.self.slots.now) l.fn.self.used l.edits (g.S.Store.halfwords l.initial.store) ≡ changed (map slot_of l.fn.self.slots.now) l.fn.self.used (drop l.edit-index l.edits) (g.S.Store.halfwords l.store))
    × (l.fn.self.used ≤ length (g.S.Store.halfwords l.store))
