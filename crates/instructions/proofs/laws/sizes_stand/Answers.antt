use Rattle.instructions.proofs.Sizes.{low_bits_tell}
use Rattle.instructions.proofs.laws.sizes_stand.Goals as goal

pub returns : goal.returns
returns c = low_bits_tell
