-- The code that a refusal names.
use Rattle.std.specs.Prelude.{ℕ}
use Rattle.formats.specs.declared.faults.WideCode.{WideCode}
use Rattle.formats.specs.declared.faults.WideCode.TheVariants.{Opcode, Funct2, Funct3, Funct4, Funct6, Funct7, Lumop, Mop, Nf}

abbrev pub code_of : WideCode → ℕ
code_of (Opcode c) = c
code_of (Funct2 c) = c
code_of (Funct3 c) = c
code_of (Funct4 c) = c
code_of (Funct6 c) = c
code_of (Funct7 c) = c
code_of (Lumop c) = c
code_of (Mop c) = c
code_of (Nf c) = c
