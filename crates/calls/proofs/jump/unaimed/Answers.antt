use Rattle.std.proofs.Common.{w64, SFits, rules}
use Rattle.std.proofs.lemmas.Int.{to_z-of_z}
use Rattle.calls.proofs.Made.{told}
use Rattle.calls.proofs.jump.unaimed.Goals as goal

pub returns : goal.returns
returns c =
    let t = c.args.to.now in
    let d : SFits w64 t.d = search rules in
    let a : SFits w64 t.a = search rules in
    let b : SFits w64 t.b = search rules in
    told c.jump_of.result t.op t.d t.a t.b (simp to_z-of_z at c.jump_of.ensures)
