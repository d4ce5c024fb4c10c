use Rattle.std.proofs.Common.{Option, Some, None, MatchOption, Decides, subst, sym, arith}
use Rattle.std.proofs.lemmas.Grind.{common_steps}
use Rattle.bits.specs.declared.part.Values.{Values}
use Rattle.reading.specs.Reading.{Coded, ValuesAs}
use Rattle.reading.proofs.Steps.{values_kept}
use Rattle.reading.proofs.word.values_of.Goals as goal

by : {G N N' : Type 0} {S S' : Values → Type 0} (o : Option Values) → MatchOption o N S → MatchOption o N' S' → (N → N' → G) → ((v : Values) → S v → S' v → G) → G
by None a b n s = n a b
by (Some v) a b n s = s v a b

pub returns : goal.returns
returns c =
    by c.values_for.result c.values_for.ensures c.filter.ensures
    (λ n e. subst (ValuesAs c.args.form.now c.args.w) (sym e) (λ v f k. n v f))
    (λ v g h. let d : Decides h.0 (Coded c.args.form.now v) = grind (arith, common_steps) in values_kept c.args.form.now c.args.w v h.0 c.filter.result g d h.2)
