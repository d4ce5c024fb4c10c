use Rattle.text.proofs.Splits.{lines_exact}
use Rattle.text.proofs.lines.lines_stand.Goals as goal

pub returns : goal.returns
returns c = lines_exact
