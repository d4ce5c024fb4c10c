use Rattle.std.proofs.Common.{◌≡◌, take}
use Rattle.store.specs.Puts.{applied, puts}
use Rattle.store.proofs.store.put_all.Given as goal

-- the halfwords before i are put
abbrev pub invariant-loop-i : goal.invariant-loop-i
invariant-loop-i g l = g.S.Store.halfwords l.store ≡ applied (puts l.place (take l.i l.list)) (g.S.Store.halfwords l.initial.store)
