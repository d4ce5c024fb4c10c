use Rattle.std.proofs.Common.{◌≡◌, ℕ, List, ℤ, Some, Option, ap, ◌∙◌, w64, SFits, to_z, of_z}
use Rattle.std.proofs.lemmas.Int.{to_z-of_z}
use Rattle.instructions.specs.declared.instruction.Instruction.{Instruction}
use Rattle.aiming.specs.Standing.{reaching_only, aimed, jump_at, halfwords_found}
use Rattle.aiming.proofs.Lawfuls.{jump_once}
use Rattle.aiming.proofs.aim.aimed_at.Goals as goal

-- the jump that was found, aimed
found : (cells : List ℕ) (used p : ℕ) (i : Instruction) (z : ℤ) (r : Option (List ℕ)) → SFits w64 z → Some (i.op.place, i.fields) ≡ jump_at cells used p
    → r ≡ halfwords_found (aimed (reaching_only (Some (i.op.place, i.fields))) (to_z w64 (of_z w64 z))) → r ≡ halfwords_found (aimed (jump_at cells used p) z)
found cells used p i z r s e h =
    h
    ∙ ap (λ z. halfwords_found (aimed (reaching_only (Some (i.op.place, i.fields))) z)) (to_z-of_z w64 z s)
    ∙ ap (λ o. halfwords_found (aimed (reaching_only o) z)) e
    ∙ ap (λ o. halfwords_found (aimed o z)) (jump_once cells used p)

pub returns : goal.returns
returns g c =
    found (g.S.Store.halfwords c.args.store.now) c.args.used c.args.place c.in_ok-jump.jump c.args.distance _ c.ranges.distance c.in_ok-jump.ensures c.aimed_halfwords.ensures
