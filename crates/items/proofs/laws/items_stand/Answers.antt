use Rattle.items.proofs.Items.{item_laws}
use Rattle.items.proofs.Leaps.{jump_laws}
use Rattle.items.proofs.Constants.{pair_laws}
use Rattle.items.proofs.laws.items_stand.Goals as goal

pub returns : goal.returns
returns c = record { items = item_laws; jumps = jump_laws; pairs = pair_laws }
