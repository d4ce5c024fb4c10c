use Rattle.std.proofs.Common.{◌∙◌, ap}
use Rattle.std.proofs.Math.Seq.{take-length}
use Rattle.std.proofs.Common.{take}
use Rattle.reading.specs.Places.{word_at}
use Rattle.reading.proofs.read.word_at.Goals as goal

pub returns : goal.returns
returns g c =
    let hs = g.S.Store.halfwords c.args.store.now in
    c.word_within.ensures ∙ ap (λ n. word_at (take n hs) c.args.place) c.size.ensures.all ∙ ap (λ t. word_at t c.args.place) (take-length hs)
