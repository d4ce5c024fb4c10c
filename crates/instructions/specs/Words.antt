-- What build answers, and an instruction's word.
use Rattle.std.specs.Prelude.{ℕ, suc, ◌-◌, ◌/◌, ◌%◌, ◌^◌, cond, List, [], ◌∷◌, ℤ, pos, negsuc, Some, None, Option, Ok, Err, Result, ◌==◌, unsigned_abs}
use Rattle.bits.specs.declared.part.Values.{Values}
use Rattle.bits.specs.Layout.{word}
use Rattle.formats.specs.Layouts.{layout, size}
use Rattle.formats.specs.Lawful.{outcome}
use Rattle.operations.specs.declared.row.Use.{Use}
use Rattle.operations.specs.declared.row.Use.TheVariants.{Full, Short}
use Rattle.operations.specs.declared.row.Number.{Number}
use Rattle.operations.specs.declared.row.Number.TheVariants.{Signed, Unsigned}
use Rattle.operations.specs.declared.row.Masking.{Masking}
use Rattle.operations.specs.declared.row.Form.{Form}
use Rattle.operations.specs.declared.operation.Operation.{Operation}
use Rattle.operations.specs.Manual.{form_at}
use Rattle.instructions.specs.declared.fields.Fields.{Fields}
use Rattle.instructions.specs.declared.fields.BuildFault.{BuildFault}
use Rattle.instructions.specs.declared.instruction.Instruction.{Instruction}
use Rattle.instructions.specs.declared.word.Halfwords.{Halfwords}
use Rattle.instructions.specs.declared.word.Halfwords.TheVariants.{One, Two}
use Rattle.instructions.specs.Faults.{build_fault}

abbrev pub shown : Result Instruction BuildFault → Result (Operation × Fields) BuildFault
shown (Ok i) = Ok (i.op, i.fields)
shown (Err e) = Err e

-- build's answer: the first fault, or the operation with its fields
abbrev pub built : Operation → Fields → Result (Operation × Fields) BuildFault
built o f = outcome (build_fault (form_at o.place) f) (o, f)

-- ---- the fields as they stand in the word

-- a register's number; a short one less 8
abbrev pub raw_reg : Option Use → ℤ → ℕ
raw_reg None x = 0
raw_reg (Some (Full c e)) x = unsigned_abs x
raw_reg (Some (Short c)) x = unsigned_abs x - 8

-- the constant in units, a signed one as its two's complement
abbrev pub raw_number : Option Number → ℤ → ℕ
raw_number None n = 0
raw_number (Some (Signed k u w)) (pos n) = n / u
raw_number (Some (Signed k u w)) (negsuc n) = 2 ^ k - suc n / u
raw_number (Some (Unsigned k u w)) n = unsigned_abs n / u

-- the bit is 0 when masked
abbrev pub raw_mask : Option Masking → ℤ → ℕ
raw_mask None m = 0
raw_mask (Some u) m = 1 - unsigned_abs m

abbrev pub raw : Form → Fields → Values
raw r f = record {
  d = raw_reg r.d f.d;
  a = raw_reg r.a f.a;
  b = raw_reg r.b f.b;
  n = raw_number r.n f.n;
  m = raw_mask r.m f.m;
  opcode = r.opcode;
  funct3 = r.funct3;
  funct = r.funct;
}

abbrev pub word_of : Form → Fields → ℕ
word_of r f = word (layout r.kind) (raw r f)

abbrev pub the_word : Instruction → ℕ
the_word i = word_of (form_at i.op.place) i.fields

-- a word of n halfwords, the low one first
abbrev pub halves : ℕ → ℕ → List ℕ
halves n w = cond (n == 1) (w ∷ []) (w % 65536 ∷ w / 65536 ∷ [])

-- the halfwords of an operation, by its place in the table, with these fields
abbrev pub halfwords_of : ℕ → Fields → List ℕ
halfwords_of k f = halves (size (form_at k).kind) (word_of (form_at k) f)

abbrev pub halfwords_in : Instruction → List ℕ
halfwords_in i = halfwords_of i.op.place i.fields

abbrev pub listed : Halfwords → List ℕ
listed (One a) = a ∷ []
listed (Two a b) = a ∷ b ∷ []
