-- What an open program is after a try. Assumes nothing.
use Rattle.std.specs.Borrow.{follows, MutBor, Fml}
use Rattle.records.specs.declared.counts.Counts.{Counts}
use Rattle.records.specs.contracts.counts.Counts as counts
use Rattle.programs.specs.declared.open.Open.{Open}
use Rattle.programs.specs.declared.trying.Try.{Try}
use Rattle.programs.specs.contracts.open.Open as program

abbrev pub with_counts : Counts → Open
with_counts c = record { counts = c }

-- it has the counts that the try leaves
abbrev pub LendsCounts : MutBor Open → Try → Fml
LendsCounts s t = follows program.the_row counts.the_row s.ghost_name t.counts.ghost_name with_counts
