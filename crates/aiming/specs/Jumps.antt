-- Making a jump.
use Rattle.std.specs.Prelude.{ℕ, cond, ℤ, pos, Some, None, Ok, Err, Option, Result}
use Rattle.formats.specs.Lawful.{outcome}
use Rattle.operations.specs.declared.operation.Operation.{Operation}
use Rattle.operations.specs.Manual.{form_at}
use Rattle.instructions.specs.declared.fields.Fields.{Fields}
use Rattle.instructions.specs.declared.fields.BuildFault.{BuildFault}
use Rattle.instructions.specs.declared.instruction.Instruction.{Instruction}
use Rattle.instructions.specs.Faults.{reaches, fault}
use Rattle.instructions.specs.Numbers.{refusal as build-refusal}
use Rattle.aiming.specs.declared.faults.JumpFault.{JumpFault}
use Rattle.aiming.specs.declared.faults.JumpFault.TheVariants.{NoJump, Build}

abbrev pub refusal : JumpFault → ℕ
refusal NoJump = 3
refusal (Build b) = build-refusal b

-- the registers at distance 0
abbrev pub unaimed : ℤ → ℤ → ℤ → Fields
unaimed rd rs1 rs2 = record { d = rd; a = rs1; b = rs2; n = pos 0; m = pos 0 }

abbrev pub as_build : Option BuildFault → Option JumpFault
as_build None = None
as_build (Some e) = Some (Build e)

-- why the operation k is no jump with these registers: none where it is
abbrev pub jump_fault : ℕ → ℤ → ℤ → ℤ → Option JumpFault
jump_fault k rd rs1 rs2 = cond (reaches (form_at k).kind) (as_build (fault (form_at k) (unaimed rd rs1 rs2))) (Some NoJump)

-- the fault, or the operation with its fields
abbrev pub jump_built : Operation → ℤ → ℤ → ℤ → Result (Operation × Fields) JumpFault
jump_built o rd rs1 rs2 = outcome (jump_fault o.place rd rs1 rs2) (o, unaimed rd rs1 rs2)

abbrev pub shown : Result Instruction JumpFault → Result (Operation × Fields) JumpFault
shown (Ok i) = Ok (i.op, i.fields)
shown (Err e) = Err e
