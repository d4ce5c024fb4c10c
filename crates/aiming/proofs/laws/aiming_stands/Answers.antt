use Rattle.std.proofs.Common.{sym, refl, ◌∙◌}
use Rattle.formats.specs.declared.kind.Kind.TheVariants.{B, J, Cj}
use Rattle.aiming.specs.Standing.{at_distance}
use Rattle.aiming.proofs.Distances.{distances_B, distances_J, distances_Cj, reach_exactly}
use Rattle.aiming.proofs.Lawfuls.{aimed_lawful}
use Rattle.aiming.proofs.Stands.{halfwords_length, jump_put}
use Rattle.aiming.proofs.laws.aiming_stands.Goals as goal

pub returns : goal.returns
returns c =
    record {
      b_reach = reach_exactly B _ _ _ refl distances_B;
      j_reach = reach_exactly J _ _ _ refl distances_J;
      cj_reach = reach_exactly Cj _ _ _ refl distances_Cj;
      lawful_still = aimed_lawful;
      size_still = λ k f z h. halfwords_length k (at_distance f z) h ∙ sym (halfwords_length k f h);
      stands = jump_put;
    }
