use Rattle.std.proofs.Common.{length}
use Rattle.text.proofs.writing.+fill_hex.Given as goal

abbrev pub decreases-fill_hex : goal.decreases-fill_hex
decreases-fill_hex l = length l.out.now
