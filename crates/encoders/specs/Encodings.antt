-- What the encoders answer.
use Rattle.std.specs.Prelude.{ℕ, ◌%◌, cond, List, [], ◌∷◌, ℤ, Some, None, Ok, Err, Option, Result, ◌==◌, unsigned_abs}
use Rattle.bits.specs.declared.part.Field.TheVariants.{D, A, B, N, M, Opcode, Funct3, Funct}
use Rattle.bits.specs.declared.part.Part.{Part}
use Rattle.bits.specs.declared.part.Part.TheVariants.{Fixed, Slice}
use Rattle.bits.specs.declared.part.Values.{Values}
use Rattle.bits.specs.Layout.{word}
use Rattle.operands.specs.declared.masking.VecOpMasking.{VecOpMasking}
use Rattle.operands.specs.Masks.{mask_bit}
use Rattle.operands.specs.Ranges.{halved}
use Rattle.operations.specs.declared.row.Form.{Form}
use Rattle.formats.specs.declared.faults.WideCode.{WideCode}
use Rattle.formats.specs.declared.kind.Kind.{Kind}
use Rattle.formats.specs.declared.kind.Kind.TheVariants as kind
use Rattle.formats.specs.Layouts.{layout}
use Rattle.args.specs.declared.CiOp.{CiOp}
use Rattle.args.specs.declared.CiOp.TheVariants.{CAddi, CAddiw, CAddi16sp, CLi, CLui, CSlli, CLwsp, CLdsp, CFldsp}
use Rattle.args.specs.declared.CssOp.{CssOp}
use Rattle.args.specs.declared.CssOp.TheVariants.{CFsdsp, CSwsp, CSdsp}
use Rattle.args.specs.declared.CsOp.{CsOp}
use Rattle.args.specs.declared.CsOp.TheVariants.{CFsd, CSw, CSd}
use Rattle.args.specs.declared.ClOp.{ClOp}
use Rattle.args.specs.declared.ClOp.TheVariants.{CFld, CLw, CLd}
use Rattle.encoders.specs.declared.faults.EncodeFault.{EncodeFault}
use Rattle.encoders.specs.declared.faults.EncodeFault.TheVariants.{Code, Odd, Operation}

abbrev pub fault_number : EncodeFault → ℕ
fault_number (Code e) = 2
fault_number (Odd z) = 2
fault_number Operation = 3

-- the word, or the first plain field that is too wide
abbrev pub answered : Option WideCode → ℕ → Result ℕ EncodeFault
answered None w = Ok w
answered (Some e) w = Err (Code e)

-- the fields d, a, b, n, m, opcode, funct3 and funct
abbrev pub fields : ℕ → ℕ → ℕ → ℕ → ℕ → ℕ → ℕ → ℕ → Values
fields d a b n m oc f3 fu = record {
  d = d;
  a = a;
  b = b;
  n = n;
  m = m;
  opcode = oc;
  funct3 = f3;
  funct = fu;
}

-- the fields of vector arithmetic, with the codes that the manuals give the operation
abbrev pub arithmetic : Form → ℕ → ℕ → ℕ → ℕ → VecOpMasking → Values
arithmetic f d a b n m = fields d a b n (mask_bit m) f.opcode f.funct3 f.funct

-- a vector load or store: nf, mew, mop, vm, lumop or sumop, rs1, width, vd or vs3, opcode; here lumop or sumop is the field b,
-- mop the field n and nf the field funct
abbrev pub unit_stride : List Part
unit_stride = Slice Opcode 0 7 ∷ Slice D 0 5 ∷ Slice Funct3 0 3 ∷ Slice A 0 5 ∷ Slice B 0 5 ∷ Slice M 0 1 ∷ Slice N 0 2 ∷ Fixed 1 0 ∷ Slice Funct 0 3 ∷ []

-- a jump at the distance z, refused where that is odd
abbrev pub jumped : ℕ → ℕ → ℤ → Result ℕ EncodeFault
jumped oc f3 z = cond (unsigned_abs z % 2 == 0) (Ok (word (layout kind.Cj) (fields 0 0 0 (halved 11 z) 0 oc f3 0))) (Err (Odd z))

-- the layout of a load from the stack, for the operations that are one
abbrev pub sp_load : CiOp → Option Kind
sp_load CAddi = None
sp_load CAddiw = None
sp_load CAddi16sp = None
sp_load CLi = None
sp_load CLui = None
sp_load CSlli = None
sp_load CLwsp = Some kind.CiLwsp
sp_load CLdsp = Some kind.CiLdsp
sp_load CFldsp = Some kind.CiLdsp

abbrev pub loaded : Option Kind → Values → Result ℕ EncodeFault
loaded None v = Err Operation
loaded (Some k) v = Ok (word (layout k) v)

abbrev pub sp_store : CssOp → Kind
sp_store CFsdsp = kind.CssDouble
sp_store CSwsp = kind.CssWord
sp_store CSdsp = kind.CssDouble

abbrev pub store_kind : CsOp → Kind
store_kind CFsd = kind.CsDouble
store_kind CSw = kind.CsWord
store_kind CSd = kind.CsDouble

abbrev pub load_kind : ClOp → Kind
load_kind CFld = kind.ClDouble
load_kind CLw = kind.ClWord
load_kind CLd = kind.ClDouble
