-- The call that a line gives: an operation's instruction or jump, a constant, or a label that is bound.
use Rattle.std.specs.Prelude.{◌≡◌, ℕ, Bool, true, false, cond, List, length, ℤ, Some, None, Option, Ok, Err, Result, codes, ◌==◌, nat_lt, unsigned_abs, refl}
use Rattle.std.specs.Str.{bytes_eq}
use Rattle.std.specs.Option.{option_map}
use Rattle.std.proofs.Common.{ap}
use Rattle.std.proofs.lemmas.Bool.{ltb-true}
use Rattle.bits.specs.declared.part.Field.{Field}
use Rattle.bits.specs.declared.part.Field.TheVariants.{D, A, B, M}
use Rattle.text.specs.Fields.{fields, field_of, text_of}
use Rattle.text.specs.Found.{found}
use Rattle.operations.specs.declared.operation.Operation.{Operation}
use Rattle.operations.specs.Manual.{operations, form_at, count}
use Rattle.operations.specs.Names.{named}
use Rattle.instructions.specs.declared.fields.Fields.{Fields}
use Rattle.instructions.specs.declared.fields.BuildFault.{BuildFault}
use Rattle.instructions.specs.declared.fields.BuildFault.TheVariants as build
use Rattle.instructions.specs.declared.instruction.Instruction.{Instruction}
use Rattle.instructions.specs.Faults.{reaches, fault, is_none}
use Rattle.program.specs.declared.faults.EmitFault.{EmitFault}
use Rattle.program.specs.declared.faults.EmitFault.TheVariants as emit
use Rattle.lives.specs.declared.types.Deed.{Deed}
use Rattle.lives.specs.declared.types.Deed.TheVariants as deed
use Rattle.lines.specs.declared.columns.Columns.{Columns}
use Rattle.lines.specs.declared.faults.LineFault.{LineFault}
use Rattle.lines.specs.declared.faults.LineFault.TheVariants.{FieldCount, UnknownOperation, Unused, Emit}
use Rattle.lines.specs.declared.deed.Verb.{Verb}
use Rattle.lines.specs.declared.deed.Verb.TheVariants as verb
use Rattle.lines.specs.Lines.{there, numbers}

-- ---- what a name says

-- the operation at a place, if the table has one there
abbrev pub operation_from : (k : ℕ) → (b : Bool) → nat_lt k count ≡ b → Option Operation
operation_from k true e = Some (record { place = k; real = ltb-true k count e })
operation_from k false e = None

abbrev pub operation_there : Option ℕ → Option Operation
operation_there None = None
operation_there (Some k) = operation_from k (nat_lt k count) refl

-- besides the operations there are const and bind
abbrev pub verb_named : List ℕ → Option Verb
verb_named t =
    cond (bytes_eq t (codes "const")) (Some verb.Const)
    (cond (bytes_eq t (codes "bind")) (Some verb.Bind)
    (option_map verb.Work (operation_there (named operations t))))

abbrev pub verb_at : List ℕ → ℕ → Option Verb
verb_at line k = found (field_of line k) (λ f. verb_named (text_of f))

-- ---- the call

-- what follows from an answer that is no fault
abbrev pub after : {A B : Type 0} → Result A LineFault → (A → Result B LineFault) → Result B LineFault
after (Ok x) k = k x
after (Err e) k = Err e

-- a field that is not used is 0
abbrev pub unused : Field → ℤ → Result Deed LineFault → Result Deed LineFault
unused x z r = cond (unsigned_abs z == 0) r (Err (Unused x z))

-- the instruction of an operation with these fields, or their first fault
abbrev pub instruction_from : (o : Operation) → (f : Fields) → (x : Option BuildFault) → fault (form_at o.place) f ≡ x → Result Instruction BuildFault
instruction_from o f None e = Ok (record { op = o; fields = f; ok = ap is_none e })
instruction_from o f (Some x) e = Err x

-- the same for what is no jump
abbrev pub instruction : Operation → Fields → Result Instruction BuildFault
instruction o f = cond (reaches (form_at o.place).kind) (Err build.Jump) (instruction_from o f (fault (form_at o.place) f) refl)

-- emit's fault holds that of the fields
abbrev pub in_emit : Result Instruction BuildFault → Result Instruction EmitFault
in_emit (Ok i) = Ok i
in_emit (Err e) = Err (emit.Build e)

abbrev pub emitting : Result Instruction EmitFault → Result Deed LineFault
emitting (Ok i) = Ok (deed.Emit i)
emitting (Err e) = Err (Emit e)

-- a jump's constant is its label
abbrev pub jumping : Operation → Fields → Result Deed LineFault
jumping o f = unused M f.m (Ok (deed.Jump (record { op = o; d = f.d; a = f.a; b = f.b; label = f.n })))

-- const takes d and n, bind takes n
abbrev pub deed_of : Verb → Fields → Result Deed LineFault
deed_of verb.Const f = unused A f.a (unused B f.b (unused M f.m (Ok (deed.Constant (record { d = f.d; value = f.n })))))
deed_of verb.Bind f = unused D f.d (unused A f.a (unused B f.b (unused M f.m (Ok (deed.Bind f.n)))))
deed_of (verb.Work o) f = cond (reaches (form_at o.place).kind) (jumping o f) (emitting (in_emit (instruction o f)))

-- what a line says: the first fault of the line, or its call
abbrev pub said : Columns → List ℕ → Result Deed LineFault
said c line =
    cond (length (fields line) == 6)
    (there UnknownOperation (verb_at line c.op) (λ v. after (numbers c line) (λ f. deed_of v f)))
    (Err (FieldCount (length (fields line))))
