use Rattle.std.proofs.Common.{◌≡◌, ℕ, Some, None, Option, sym, refl}
use Rattle.instructions.specs.declared.fields.Fields.{Fields}
use Rattle.instructions.specs.declared.instruction.Instruction.{Instruction}
use Rattle.reading.specs.Reading.{Reads}
use Rattle.aiming.specs.Standing.{spelled, instruction_of}
use Rattle.aiming.proofs.Known.{known, only_known}
use Rattle.aiming.proofs.standing.instruction_of.Goals as goal

-- what reads as no instruction is none
none : (w : ℕ) → Reads w None → (o : Option (ℕ × Fields)) → instruction_of w ≡ o → None ≡ o
none w h None e = refl
none w h (Some (k, f)) e =
    let z = only_known w k f e in
    let i : Instruction = record { op = record { place = k; real = z.0 }; fields = f; ok = z.1.ok } in
    let read : ◌≡◌ {A = Option Instruction} None (Some i) = (h i).1 z.1.word in cc

told : (w : ℕ) (r : Option Instruction) → Reads w r → spelled r ≡ instruction_of w
told w None h = none w h (instruction_of w) refl
told w (Some i) h = sym (known w i.op.place i.fields i.op.real i.ok ((h i).0 refl))

pub returns : goal.returns
returns c = told c.args.w c.read_word.result c.read_word.ensures
