use Rattle.std.proofs.Common.{Some, sym, ap, ◌∙◌, w64}
use Rattle.std.proofs.lemmas.Int.{to_z-of_z}
use Rattle.operands.proofs.Pairs.{one_pair}
use Rattle.operands.proofs.generate.generate_imm.Goals as goal

pub returns : goal.returns
returns c =
    let p = c.pair_of.result in
    let e = c.pair_of.ensures ∙ to_z-of_z w64 c.args.value c.ranges.value in
    record { is = e; only = λ h l q. ap Some (one_pair p.0 h p.1 l (e ∙ sym q)) }
