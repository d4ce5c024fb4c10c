use Rattle.std.proofs.Common.{◌≡◌, ◌-◌, ◌≤◌, length, drop}
use Rattle.bits.specs.Layout.{word}
use Rattle.bits.proofs.layout.joined.Given as goal

abbrev pub invariant-loop-part : goal.invariant-loop-part
invariant-loop-part l =
    (length l.yielded ≤ length l.fn.parts) × (l.bits ≡ word (drop (length l.fn.parts - length l.yielded) l.fn.parts) l.fn.v)
