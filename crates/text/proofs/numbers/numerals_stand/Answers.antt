use Rattle.text.proofs.Numerals.{numerals_exact}
use Rattle.text.proofs.numbers.numerals_stand.Goals as goal

pub returns : goal.returns
returns c = numerals_exact
