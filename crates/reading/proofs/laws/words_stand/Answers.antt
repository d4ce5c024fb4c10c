use Rattle.reading.proofs.Tell.{words_tell, halfwords_tell}
use Rattle.reading.proofs.laws.words_stand.Goals as goal

pub returns : goal.returns
returns c = record { words = words_tell; lists = halfwords_tell }
