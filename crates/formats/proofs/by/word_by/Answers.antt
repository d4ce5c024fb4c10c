use Rattle.formats.proofs.Made.{fits_of}
use Rattle.formats.proofs.by.word_by.Goals as goal

pub make-o-requires : goal.make-o-requires
make-o-requires g c = fits_of g.F.Format.kind c.args.v.now c.requires
