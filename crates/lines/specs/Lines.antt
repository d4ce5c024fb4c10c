-- The numbers of a line, an empty one being 0.
use Rattle.std.specs.Prelude.{ℕ, List, ℤ, Some, None, Ok, Err, Option, Result}
use Rattle.bits.specs.declared.part.Field.TheVariants.{D, A, B, N, M}
use Rattle.text.specs.Fields.{field_of}
use Rattle.text.specs.Found.{found}
use Rattle.text.specs.Numbers.{value_of}
use Rattle.instructions.specs.declared.fields.Fields.{Fields}
use Rattle.lines.specs.declared.columns.Columns.{Columns}
use Rattle.lines.specs.declared.faults.LineFault.{LineFault}
use Rattle.lines.specs.declared.faults.LineFault.TheVariants.{NoNumber}

-- the number in a field
abbrev pub number_at : List ℕ → ℕ → Option ℤ
number_at line k = found (field_of line k) value_of

-- what is there, or else a fault
abbrev pub there : {A B : Type 0} → LineFault → Option A → (A → Result B LineFault) → Result B LineFault
there e None k = Err e
there e (Some x) k = k x

-- all five, or the first that is none
abbrev pub numbers : Columns → List ℕ → Result Fields LineFault
numbers c line =
    there (NoNumber D) (number_at line c.d) (λ d.
    there (NoNumber A) (number_at line c.a) (λ a.
    there (NoNumber B) (number_at line c.b) (λ b.
    there (NoNumber N) (number_at line c.n) (λ n.
    there (NoNumber M) (number_at line c.m) (λ m.
    Ok (record { d = d; a = a; b = b; n = n; m = m }))))))
