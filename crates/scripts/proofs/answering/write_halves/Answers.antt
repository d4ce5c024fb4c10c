use Rattle.std.proofs.Common.{◌∷◌, rules, subst, sym}
use Rattle.text.specs.Written.{hex}
use Rattle.std.specs.Io.KnownBytes.{Appends}
use Rattle.scripts.proofs.Written.{joined, halves_more}
use Rattle.scripts.proofs.answering.write_halves.Goals as goal

pub loop-place-preserved : goal.loop-place-preserved
loop-place-preserved g c =
    let i = c.loop-place.invariant in
    let hs = g.S.Store.halfwords c.args.store.now in (
      search rules,
      subst (Appends (g.W.Write.contents c.args.out.now) (g.W.Write.contents c.write_half.new.out)) (sym (halves_more hs c.loop-place.place (search rules)))
          (joined _ _ _ _ _ i.1 (subst (λ h. Appends (g.W.Write.contents c.loop-place.out) (g.W.Write.contents c.write_half.new.out) (32 ∷ hex 4 h)) c.half_at.ensures c.in_ok-write_half.ensures)),
    )
