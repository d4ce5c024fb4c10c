-- Which program a seal hands over: the sealed one, or the open one back with the reason. Assumes nothing.
use Rattle.std.specs.Prelude.{Ok, Err, Result}
use Rattle.records.specs.declared.counts.Counts.{Counts}
use Rattle.sealing.specs.declared.faults.SealFault.{SealFault}
use Rattle.sealing.specs.Sealing.{Verdict}
use Rattle.programs.specs.declared.open.Open.{Open}
use Rattle.programs.specs.declared.sealed.Sealed.{Sealed}

abbrev pub handed : Counts → Verdict → Result Sealed (Open × SealFault)
handed c (Ok u) = Ok (record { counts = c })
handed c (Err e) = Err (record { counts = c }, e)
