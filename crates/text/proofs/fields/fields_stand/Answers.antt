use Rattle.text.proofs.Splits.{fields_exact}
use Rattle.text.proofs.fields.fields_stand.Goals as goal

pub returns : goal.returns
returns c = fields_exact
