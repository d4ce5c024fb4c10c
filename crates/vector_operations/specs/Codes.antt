-- What the manuals say of the vector operation of a name: its codes, its sources, and the overlaps that it forbids.
use Rattle.std.specs.Prelude.{◌≡◌, ℕ, ◌<◌, Bool, true, false, ◌&&◌, ◌||◌, List, Some, None, Option}
use Rattle.operands.specs.declared.masking.VecOpMasking.{VecOpMasking}
use Rattle.operands.specs.declared.regs.Class.{Class}
use Rattle.operands.specs.Masks.{masked}
use Rattle.operations.specs.declared.row.Use.{Use}
use Rattle.operations.specs.declared.row.Use.TheVariants.{Full, Short}
use Rattle.operations.specs.declared.row.Number.{Number}
use Rattle.operations.specs.declared.row.Number.TheVariants.{Signed, Unsigned}
use Rattle.operations.specs.declared.row.Forbids.{Forbids}
use Rattle.operations.specs.declared.row.Form.{Form}
use Rattle.operations.specs.Manual.{operations, form_at, no_entry}
use Rattle.operations.specs.Names.{named}
use Rattle.vector_operations.specs.declared.vector.VecOpCategory.{VecOpCategory}
use Rattle.vector_operations.specs.declared.vector.VecOpCategory.TheVariants.{OPIVV, OPFVV, OPMVV, OPIVI, OPIVX, OPFVF, OPMVX, OPCFG}

abbrev pub form_or_none : Option ℕ → Form
form_or_none None = no_entry.form
form_or_none (Some k) = form_at k

-- what the manuals say of the operation of that name
abbrev pub form_named : List ℕ → Form
form_named name = form_or_none (named operations name)

-- vector arithmetic: the major opcode OP-V, three bits of funct3 and six of funct6
pub record Arithmetic (f : Form) : Type 0 where
  pub opcode : f.opcode ≡ 87
  pub funct3 : f.funct3 < 8
  pub funct6 : f.funct < 64

-- the categories by funct3
abbrev pub category_code : VecOpCategory → ℕ
category_code OPIVV = 0
category_code OPFVV = 1
category_code OPMVV = 2
category_code OPIVI = 3
category_code OPIVX = 4
category_code OPFVF = 5
category_code OPMVX = 6
category_code OPCFG = 7

-- the class of a register that is used
abbrev pub class_of : Option Use → Option Class
class_of None = None
class_of (Some (Full c e)) = Some c
class_of (Some (Short c)) = Some c

-- whether a constant is unsigned
abbrev pub is_unsigned : Option Number → Bool
is_unsigned None = false
is_unsigned (Some (Signed k u w)) = false
is_unsigned (Some (Unsigned k u w)) = true

-- whether the destination may be none of the sources, the mask among them: a masked operation has v0 as a source
abbrev pub forbids_any : Forbids → VecOpMasking → Bool
forbids_any f m = f.sources || (masked m && f.mask)
