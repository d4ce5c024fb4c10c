use Rattle.std.proofs.Common.{◌≡◌, ℕ, ℤ, Some, Option, sym, ap, ◌∙◌, w64, SFits, to_z, of_z}
use Rattle.std.proofs.lemmas.Int.{to_z-of_z}
use Rattle.instructions.specs.declared.fields.Fields.{Fields}
use Rattle.instructions.specs.declared.instruction.Instruction.{Instruction}
use Rattle.aiming.specs.Standing.{at_distance, reaching_only, aimed, worded, halfwords_found}
use Rattle.aiming.proofs.Lawfuls.{Aimed, aimed_some, word_small, halfwords_by}
use Rattle.aiming.proofs.aim.aimed_halfwords.Goals as goal

abbrev at : Instruction → ℤ → Option (ℕ × Fields)
at i z = aimed (reaching_only (Some (i.op.place, i.fields))) z

-- the word that was answered
answered : (i : Instruction) (z : ℤ) (w : ℕ) → SFits w64 z → Some w ≡ worded (at i (to_z w64 (of_z w64 z))) → Aimed i.op.place i.fields z w
answered i z w s e = aimed_some i.op.place i.fields z w i.op.real i.ok (e ∙ ap (λ z. worded (at i z)) (to_z-of_z w64 z s))

pub returns : goal.returns
returns c =
    let i = c.args.jump.now in
    let a = answered i c.args.distance c.in_ok-w.w c.ranges.distance c.in_ok-w.ensures in
    ap Some (c.of.ensures.all (λ n. word_small i.op.place (at_distance i.fields c.args.distance) c.in_ok-w.w i.op.real a.ok a.word n) ∙ sym (halfwords_by i.op.place (at_distance i.fields c.args.distance) c.in_ok-w.w i.op.real a.word))
    ∙ ap halfwords_found (sym a.is)
