use Rattle.std.proofs.Common.{◌≡◌, drop}
use Rattle.bits.specs.Layout.{pick}
use Rattle.bits.proofs.layout.Layout.pick.Given as goal

abbrev pub invariant-loop-part : goal.invariant-loop-part
invariant-loop-part l = pick l.found (drop l.part-index l.fn.self.parts.now) l.fn.field l.rest ≡ pick 0 l.fn.self.parts.now l.fn.field l.fn.w
