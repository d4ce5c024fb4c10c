-- The text of an answer.
use Rattle.std.specs.Prelude.{ℕ, List, ◌++◌, codes}
use Rattle.std.specs.Fmt.{decimal, signed_decimal}
use Rattle.sealing.specs.declared.faults.SealFault.TheVariants as seal
use Rattle.changing.specs.declared.faults.ChangeFault.TheVariants as change
use Rattle.lives.specs.Numbers.{refusal}
use Rattle.lives.specs.declared.types.Fault.{Fault}
use Rattle.lives.specs.declared.types.Fault.TheVariants.{Emit, Constant, Jump, Bind, Seal, Change, Value}
use Rattle.lives.specs.declared.types.Answer.{Answer}
use Rattle.lives.specs.declared.types.Answer.TheVariants.{Taken, Held, Refused, OutOfState}

-- where it is told: which jump and where, or which entry
abbrev pub where_text : Fault → List ℕ
where_text (Seal (seal.Jump bad)) = codes " jump " ++ (decimal bad.jump ++ (codes " place " ++ decimal bad.place))
where_text (Seal seal.Full) = codes ""
where_text (Change (change.Entry bad)) = codes " entry " ++ decimal bad.entry
where_text (Change change.Full) = codes ""
where_text (Emit e) = codes ""
where_text (Constant e) = codes ""
where_text (Jump e) = codes ""
where_text (Bind e) = codes ""
where_text (Value e) = codes ""

abbrev pub refused_text : Fault → List ℕ
refused_text e = codes "refused " ++ (decimal (refusal e) ++ where_text e)

abbrev pub answer_text : Answer → List ℕ
answer_text Taken = codes "ok"
answer_text (Held v) = codes "ok " ++ signed_decimal v
answer_text (Refused e) = refused_text e
answer_text OutOfState = codes "state"
