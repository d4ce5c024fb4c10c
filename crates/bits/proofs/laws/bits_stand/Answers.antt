use Rattle.std.proofs.Common.{refl}
use Rattle.bits.specs.Layout.{word}
use Rattle.bits.proofs.Layouts.{picks_only}
use Rattle.bits.proofs.Twos.{twos_exact}
use Rattle.bits.proofs.laws.bits_stand.Goals as goal

pub returns : goal.returns
returns c = record { layouts = λ s h v f. picks_only s v (word s v) h f refl; twos = twos_exact }
