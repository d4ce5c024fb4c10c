-- The operations as the manuals list them: the unprivileged manual's base set and C extension, Zcb, Vector 1.0 and Zvbb.
use Rattle.std.specs.Prelude.{ℕ, Bool, true, false, List, [], ◌∷◌, Some, None, Option, codes, slice_index_or}
use Rattle.bits.specs.declared.part.Values.{Values}
use Rattle.bits.specs.Layout.{mask, bits}
use Rattle.formats.specs.declared.kind.Kind.{Kind}
use Rattle.formats.specs.declared.kind.Kind.TheVariants.{R, I, S, U, B, J, V, VImm, VMem, Cr, Cr2, CrBare, Ca, Cj, Ci, CiLwsp, CiLdsp, CiAddi16sp, Ciw, Cb, CssWord, CssDouble, CsWord, CsDouble, ClWord, ClDouble}
use Rattle.formats.specs.Layouts.{layout}
use Rattle.operands.specs.declared.regs.Class.TheVariants.{Integer, Float, Vector}
use Rattle.operations.specs.declared.row.Except.TheVariants.{Nothing, Zero, ZeroAndTwo}
use Rattle.operations.specs.declared.row.Use.{Use}
use Rattle.operations.specs.declared.row.Use.TheVariants.{Full, Short}
use Rattle.operations.specs.declared.row.Allowed.{Allowed}
use Rattle.operations.specs.declared.row.Allowed.TheVariants.{All, NonZero, GroupSize}
use Rattle.operations.specs.declared.row.Number.{Number}
use Rattle.operations.specs.declared.row.Number.TheVariants.{Signed, Unsigned}
use Rattle.operations.specs.declared.row.Masking.{Masking}
use Rattle.operations.specs.declared.row.Masking.TheVariants.{Free, Always, Never}
use Rattle.operations.specs.declared.row.Form.{Form}
use Rattle.operations.specs.declared.row.Row.{Row}

-- a name, as bytes, and what its words are
pub record Entry : Type 0 where
  pub name : List ℕ
  pub form : Form

-- an operation's codes, in their fields
abbrev pub codes_only : ℕ → ℕ → ℕ → Values
codes_only oc f3 fu = record { d = 0; a = 0; b = 0; n = 0; m = 0; opcode = oc; funct3 = f3; funct = fu }

-- the fixed bits follow from the format's layout and the codes
abbrev operation : List ℕ → Kind → ℕ → ℕ → ℕ → Option Use → Option Use → Option Use → Option Number → Option Masking → Bool → Bool → Entry
operation nm k oc f3 fu rd rs1 rs2 imm vm src v0 =
    record {
      name = nm;
      form =
          record {
            kind = k;
            opcode = oc;
            funct3 = f3;
            funct = fu;
            mask = mask (layout k);
            bits = bits (layout k) (codes_only oc f3 fu);
            d = rd;
            a = rs1;
            b = rs2;
            n = imm;
            m = vm;
            forbids = record { sources = src; mask = v0 };
          };
    }

-- ---- registers: any integer or float register, an integer one but 0, a vector register, and the short ones 8 to 15

abbrev x : Option Use
x = Some (Full Integer Nothing)

abbrev f : Option Use
f = Some (Full Float Nothing)

abbrev x_nonzero : Option Use
x_nonzero = Some (Full Integer Zero)

abbrev v : Option Use
v = Some (Full Vector Nothing)

abbrev xc : Option Use
xc = Some (Short Integer)

abbrev fc : Option Use
fc = Some (Short Float)

-- ---- constants: how many bits they have in units, the unit, and which numbers are allowed

abbrev pub signed : ℕ → ℕ → Allowed → Option Number
signed k u w = Some (Signed k u w)

abbrev pub unsigned : ℕ → ℕ → Allowed → Option Number
unsigned k u w = Some (Unsigned k u w)

-- ---- scalars

abbrev scalar : List ℕ → Kind → ℕ → ℕ → ℕ → Option Use → Option Use → Option Use → Option Number → Entry
scalar nm k oc f3 f7 rd rs1 rs2 imm = operation nm k oc f3 f7 rd rs1 rs2 imm None false false

-- OP: rd, rs1, rs2; funct3 and funct7 tell which
abbrev register : List ℕ → ℕ → ℕ → Entry
register nm f3 f7 = scalar nm R 51 f3 f7 x x x None

-- OP-IMM: rd, rs1 and a constant of 12 bits; funct3 tells which
abbrev constant : List ℕ → ℕ → Entry
constant nm f3 = scalar nm I 19 f3 0 x x None (signed 12 1 All)

-- LOAD: rd from rs1 plus an offset
abbrev load : List ℕ → ℕ → Entry
load nm f3 = scalar nm I 3 f3 0 x x None (signed 12 1 All)

-- STORE: rs2 to rs1 plus an offset
abbrev store : List ℕ → ℕ → Entry
store nm f3 = scalar nm S 35 f3 0 None x x (signed 12 1 All)

-- BRANCH: by rs1 and rs2, to an even distance
abbrev branch : List ℕ → ℕ → Entry
branch nm f3 = scalar nm B 99 f3 0 None x x (signed 12 2 All)

-- ---- vectors: OP-V; funct3 is the category, funct6 tells which. A masked one may not write v0

abbrev vector : List ℕ → ℕ → ℕ → Option Use → Entry
vector nm f3 f6 vs1 = operation nm V 87 f3 f6 v vs1 v None (Some Free) false true

-- OPIVV, OPFVV, OPMVV, OPIVX, OPFVF, OPMVX
abbrev ivv : List ℕ → ℕ → Entry
ivv nm f6 = vector nm 0 f6 v

abbrev fvv : List ℕ → ℕ → Entry
fvv nm f6 = vector nm 1 f6 v

abbrev mvv : List ℕ → ℕ → Entry
mvv nm f6 = vector nm 2 f6 v

abbrev ivx : List ℕ → ℕ → Entry
ivx nm f6 = vector nm 4 f6 x

abbrev fvf : List ℕ → ℕ → Entry
fvf nm f6 = vector nm 5 f6 f

abbrev mvx : List ℕ → ℕ → Entry
mvx nm f6 = vector nm 6 f6 x

-- OPIVI, with a signed or an unsigned constant
abbrev with_constant : List ℕ → ℕ → Option Number → Option Masking → Entry
with_constant nm f6 imm vm = operation nm VImm 87 3 f6 v None v imm vm false true

abbrev ivi : List ℕ → ℕ → Entry
ivi nm f6 = with_constant nm f6 (signed 5 1 All) (Some Free)

abbrev uvi : List ℕ → ℕ → Entry
uvi nm f6 = with_constant nm f6 (unsigned 5 1 All) (Some Free)

-- vmv<nr>r: the constant is the number of registers less 1
abbrev vmvr : List ℕ → ℕ → Entry
vmvr nm f6 = with_constant nm f6 (unsigned 5 1 GroupSize) (Some Never)

abbrev changed : Entry → Option Masking → Bool → Bool → Entry
changed e vm src v0 =
    operation e.name e.form.kind e.form.opcode e.form.funct3 e.form.funct e.form.d e.form.a e.form.b e.form.n vm src v0

-- it writes a mask, or the scalar of a reduction: a masked one may write v0
abbrev into_mask : Entry → Entry
into_mask e = changed e e.form.m e.form.forbids.sources false

-- its destination may not be one of its vector sources
abbrev apart : Entry → Entry
apart e = changed e e.form.m true e.form.forbids.mask

-- it is always masked, or never
abbrev always : Entry → Entry
always e = changed e (Some Always) e.form.forbids.sources e.form.forbids.mask

abbrev never : Entry → Entry
never e = changed e (Some Never) e.form.forbids.sources e.form.forbids.mask

-- unit-stride loads and stores; funct3 is the width. A masked load may not write v0
abbrev vload : List ℕ → ℕ → Entry
vload nm f3 = operation nm VMem 7 f3 0 v x None None (Some Free) false true

abbrev vstore : List ℕ → ℕ → Entry
vstore nm f3 = operation nm VMem 39 f3 0 v x None None (Some Free) false false

-- ---- compressed: quadrant, funct3, and the funct of the formats that have one

abbrev short : List ℕ → Kind → ℕ → ℕ → ℕ → Option Use → Option Use → Option Use → Option Number → Entry
short nm k oc f3 fu rd rs1 rs2 imm = operation nm k oc f3 fu rd rs1 rs2 imm None false false

abbrev cr : List ℕ → ℕ → Entry
cr nm f4 = short nm Cr 2 0 f4 x_nonzero None x_nonzero None

abbrev cr2 : List ℕ → ℕ → Entry
cr2 nm f4 = short nm Cr2 2 0 f4 None x_nonzero None None

-- funct6 and funct2
abbrev ca : List ℕ → ℕ → ℕ → Entry
ca nm f6 f2 = short nm Ca 1 f2 f6 xc None xc None

unfoldable pub operations : List Entry
operations =
    register (codes "add") 0 0
    ∷ register (codes "sub") 0 32
    ∷ register (codes "sll") 1 0
    ∷ register (codes "slt") 2 0
    ∷ register (codes "sltu") 3 0
    ∷ register (codes "xor") 4 0
    ∷ register (codes "srl") 5 0
    ∷ register (codes "sra") 5 32
    ∷ register (codes "or") 6 0
    ∷ register (codes "and") 7 0
    ∷ constant (codes "addi") 0
    ∷ constant (codes "slti") 2
    ∷ constant (codes "sltiu") 3
    ∷ constant (codes "xori") 4
    ∷ constant (codes "ori") 6
    ∷ constant (codes "andi") 7
    ∷ load (codes "lb") 0
    ∷ load (codes "lh") 1
    ∷ load (codes "lw") 2
    ∷ load (codes "ld") 3
    ∷ load (codes "lbu") 4
    ∷ load (codes "lhu") 5
    ∷ load (codes "lwu") 6
    ∷ store (codes "sb") 0
    ∷ store (codes "sh") 1
    ∷ store (codes "sw") 2
    ∷ store (codes "sd") 3
    ∷ scalar (codes "jalr") I 103 0 0 x x None (signed 12 1 All)
    ∷ scalar (codes "lui") U 55 0 0 x None None (signed 20 1 All)
    ∷ scalar (codes "jal") J 111 0 0 x None None (signed 20 2 All)
    ∷ branch (codes "beq") 0
    ∷ branch (codes "bne") 1
    ∷ branch (codes "blt") 4
    ∷ branch (codes "bge") 5
    ∷ branch (codes "bltu") 6
    ∷ branch (codes "bgeu") 7
    ∷ ivv (codes "VaddVV") 0
    ∷ ivx (codes "VaddVX") 0
    ∷ fvv (codes "VfaddVV") 0
    ∷ fvf (codes "VfaddVF") 0
    ∷ ivv (codes "VsubVV") 2
    ∷ ivx (codes "VsubVX") 2
    ∷ fvv (codes "VfsubVV") 2
    ∷ fvf (codes "VfsubVF") 2
    ∷ ivx (codes "VrsubVX") 3
    ∷ mvv (codes "VmulVV") 37
    ∷ mvx (codes "VmulVX") 37
    ∷ mvv (codes "VmulhVV") 39
    ∷ mvx (codes "VmulhVX") 39
    ∷ mvv (codes "VmulhuVV") 36
    ∷ mvx (codes "VmulhuVX") 36
    ∷ fvv (codes "VfmulVV") 36
    ∷ fvf (codes "VfmulVF") 36
    ∷ ivv (codes "VsmulVV") 39
    ∷ ivx (codes "VsmulVX") 39
    ∷ ivv (codes "VsllVV") 37
    ∷ ivx (codes "VsllVX") 37
    ∷ ivv (codes "VsrlVV") 40
    ∷ ivx (codes "VsrlVX") 40
    ∷ ivv (codes "VsraVV") 41
    ∷ ivx (codes "VsraVX") 41
    ∷ ivv (codes "VandVV") 9
    ∷ ivx (codes "VandVX") 9
    ∷ ivv (codes "VorVV") 10
    ∷ ivx (codes "VorVX") 10
    ∷ ivv (codes "VxorVV") 11
    ∷ ivx (codes "VxorVX") 11
    ∷ ivv (codes "VminuVV") 4
    ∷ ivx (codes "VminuVX") 4
    ∷ into_mask (mvv (codes "VredminuVS") 4)
    ∷ ivv (codes "VminVV") 5
    ∷ ivx (codes "VminVX") 5
    ∷ ivv (codes "VmaxuVV") 6
    ∷ ivx (codes "VmaxuVX") 6
    ∷ into_mask (mvv (codes "VredmaxuVS") 6)
    ∷ ivv (codes "VmaxVV") 7
    ∷ ivx (codes "VmaxVX") 7
    ∷ ivx (codes "VslidedownVX") 15
    ∷ fvf (codes "VfrsubVF") 39
    ∷ always (ivv (codes "VmergeVVM") 23)
    ∷ always (ivx (codes "VmergeVXM") 23)
    ∷ always (fvf (codes "VfmergeVFM") 23)
    ∷ never (apart (mvv (codes "VcompressVM") 23))
    ∷ fvv (codes "VfdivVV") 32
    ∷ fvf (codes "VfdivVF") 32
    ∷ ivv (codes "VsadduVV") 32
    ∷ ivx (codes "VsadduVX") 32
    ∷ fvf (codes "VfrdivVF") 33
    ∷ ivv (codes "VsaddVV") 33
    ∷ ivx (codes "VsaddVX") 33
    ∷ fvv (codes "VfminVV") 4
    ∷ fvv (codes "VfmaxVV") 6
    ∷ ivv (codes "VssubuVV") 34
    ∷ ivx (codes "VssubuVX") 34
    ∷ ivv (codes "VssubVV") 35
    ∷ ivx (codes "VssubVX") 35
    ∷ fvv (codes "VfsgnjVV") 8
    ∷ fvf (codes "VfsgnjVF") 8
    ∷ fvv (codes "VfsgnjnVV") 9
    ∷ fvv (codes "VfsgnjxVV") 10
    ∷ apart (ivv (codes "VrgatherVV") 12)
    ∷ apart (ivx (codes "VrgatherVX") 12)
    ∷ apart (mvv (codes "VwadduVV") 48)
    ∷ apart (mvx (codes "VwadduVX") 48)
    ∷ apart (mvv (codes "VwaddVV") 49)
    ∷ apart (mvx (codes "VwaddVX") 49)
    ∷ apart (mvv (codes "VwsubuVV") 50)
    ∷ apart (mvx (codes "VwsubuVX") 50)
    ∷ apart (mvv (codes "VwsubVV") 51)
    ∷ apart (mvx (codes "VwsubVX") 51)
    ∷ apart (mvv (codes "VwadduWV") 52)
    ∷ apart (mvx (codes "VwadduWX") 52)
    ∷ apart (mvv (codes "VwaddWV") 53)
    ∷ apart (mvx (codes "VwaddWX") 53)
    ∷ apart (mvv (codes "VwsubuWV") 54)
    ∷ apart (mvx (codes "VwsubuWX") 54)
    ∷ apart (mvv (codes "VwsubWV") 55)
    ∷ apart (mvx (codes "VwsubWX") 55)
    ∷ into_mask (ivv (codes "VmseqVV") 24)
    ∷ into_mask (ivx (codes "VmseqVX") 24)
    ∷ into_mask (fvv (codes "VmfeqVV") 24)
    ∷ into_mask (fvf (codes "VmfeqVF") 24)
    ∷ into_mask (ivv (codes "VmsneVV") 25)
    ∷ into_mask (ivx (codes "VmsneVX") 25)
    ∷ into_mask (fvv (codes "VmfleVV") 25)
    ∷ into_mask (fvf (codes "VmfleVF") 25)
    ∷ never (into_mask (mvv (codes "VmandMM") 25))
    ∷ into_mask (ivv (codes "VmsltuVV") 26)
    ∷ into_mask (ivx (codes "VmsltuVX") 26)
    ∷ never (into_mask (mvv (codes "VmorMM") 26))
    ∷ into_mask (ivv (codes "VmsltVV") 27)
    ∷ into_mask (ivx (codes "VmsltVX") 27)
    ∷ into_mask (fvv (codes "VmfltVV") 27)
    ∷ into_mask (fvf (codes "VmfltVF") 27)
    ∷ into_mask (ivv (codes "VmsleuVV") 28)
    ∷ into_mask (ivx (codes "VmsleuVX") 28)
    ∷ into_mask (fvv (codes "VmfneVV") 28)
    ∷ into_mask (fvf (codes "VmfneVF") 28)
    ∷ into_mask (ivv (codes "VmsleVV") 29)
    ∷ into_mask (ivx (codes "VmsleVX") 29)
    ∷ into_mask (fvf (codes "VmfgtVF") 29)
    ∷ never (into_mask (mvv (codes "VmnandMM") 29))
    ∷ into_mask (ivx (codes "VmsgtuVX") 30)
    ∷ never (into_mask (mvv (codes "VmnorMM") 30))
    ∷ into_mask (ivx (codes "VmsgtVX") 31)
    ∷ into_mask (fvf (codes "VmfgeVF") 31)
    ∷ ivv (codes "VandnVV") 1
    ∷ ivx (codes "VandnVX") 1
    ∷ ivv (codes "VrorVV") 20
    ∷ ivx (codes "VrorVX") 20
    ∷ ivv (codes "VrolVV") 21
    ∷ ivx (codes "VrolVX") 21
    ∷ mvv (codes "VmaccVV") 45
    ∷ mvx (codes "VmaccVX") 45
    ∷ mvv (codes "VnmsacVV") 47
    ∷ mvx (codes "VnmsacVX") 47
    ∷ fvv (codes "VfmaccVV") 44
    ∷ fvf (codes "VfmaccVF") 44
    ∷ fvv (codes "VfnmaccVV") 45
    ∷ fvf (codes "VfnmaccVF") 45
    ∷ fvv (codes "VfmsacVV") 46
    ∷ fvf (codes "VfmsacVF") 46
    ∷ fvv (codes "VfnmsacVV") 47
    ∷ fvf (codes "VfnmsacVF") 47
    ∷ apart (mvx (codes "Vslide1upVX") 14)
    ∷ ivi (codes "VaddVI") 0
    ∷ ivi (codes "VrsubVI") 3
    ∷ uvi (codes "VsllVI") 37
    ∷ uvi (codes "VsrlVI") 40
    ∷ uvi (codes "VsraVI") 41
    ∷ ivi (codes "VandVI") 9
    ∷ ivi (codes "VorVI") 10
    ∷ ivi (codes "VxorVI") 11
    ∷ uvi (codes "VslidedownVI") 15
    ∷ uvi (codes "VssrlVI") 42
    ∷ always (ivi (codes "VmergeVIM") 23)
    ∷ ivi (codes "VsadduVI") 32
    ∷ ivi (codes "VsaddVI") 33
    ∷ apart (uvi (codes "VrgatherVI") 12)
    ∷ vmvr (codes "VmvrV") 39
    ∷ uvi (codes "VnclipWI") 47
    ∷ uvi (codes "VnclipuWI") 46
    ∷ into_mask (ivi (codes "VmseqVI") 24)
    ∷ into_mask (ivi (codes "VmsneVI") 25)
    ∷ into_mask (ivi (codes "VmsleuVI") 28)
    ∷ into_mask (ivi (codes "VmsleVI") 29)
    ∷ into_mask (ivi (codes "VmsgtuVI") 30)
    ∷ into_mask (ivi (codes "VmsgtVI") 31)
    ∷ uvi (codes "VrorVI") 20
    ∷ apart (uvi (codes "VslideupVI") 14)
    ∷ vload (codes "vle8") 0
    ∷ vload (codes "vle16") 5
    ∷ vload (codes "vle32") 6
    ∷ vload (codes "vle64") 7
    ∷ vstore (codes "vse8") 0
    ∷ vstore (codes "vse16") 5
    ∷ vstore (codes "vse32") 6
    ∷ vstore (codes "vse64") 7
    ∷ cr (codes "CMv") 8
    ∷ cr2 (codes "CJr") 8
    ∷ cr (codes "CAdd") 9
    ∷ cr2 (codes "CJalr") 9
    ∷ short (codes "CEbreak") CrBare 2 0 9 None None None None
    ∷ ca (codes "CAnd") 35 3
    ∷ ca (codes "COr") 35 2
    ∷ ca (codes "CXor") 35 1
    ∷ ca (codes "CSub") 35 0
    ∷ ca (codes "CAddw") 39 1
    ∷ ca (codes "CSubw") 39 0
    ∷ ca (codes "CMul") 39 2
    ∷ short (codes "CJ") Cj 1 5 0 None None None (signed 11 2 All)
    ∷ short (codes "CAddi") Ci 1 0 0 x_nonzero None None (signed 6 1 NonZero)
    ∷ short (codes "CSlli") Ci 2 0 0 x_nonzero None None (unsigned 6 1 NonZero)
    ∷ short (codes "CAddiw") Ci 1 1 0 x_nonzero None None (signed 6 1 All)
    ∷ short (codes "CFldsp") CiLdsp 2 1 0 f None None (unsigned 6 8 All)
    ∷ short (codes "CLi") Ci 1 2 0 x_nonzero None None (signed 6 1 All)
    ∷ short (codes "CLwsp") CiLwsp 2 2 0 x_nonzero None None (unsigned 6 4 All)
    ∷ short (codes "CAddi16sp") CiAddi16sp 1 3 0 None None None (signed 6 16 NonZero)
    ∷ short (codes "CLui") Ci 1 3 0 (Some (Full Integer ZeroAndTwo)) None None (signed 6 1 NonZero)
    ∷ short (codes "CLdsp") CiLdsp 2 3 0 x_nonzero None None (unsigned 6 8 All)
    ∷ short (codes "CAddi4spn") Ciw 0 0 0 xc None None (unsigned 8 4 NonZero)
    ∷ short (codes "CSrli") Cb 1 4 0 xc None None (unsigned 6 1 NonZero)
    ∷ short (codes "CSrai") Cb 1 4 1 xc None None (unsigned 6 1 NonZero)
    ∷ short (codes "CAndi") Cb 1 4 2 xc None None (signed 6 1 All)
    ∷ short (codes "CFsdsp") CssDouble 2 5 0 None None f (unsigned 6 8 All)
    ∷ short (codes "CSwsp") CssWord 2 6 0 None None x (unsigned 6 4 All)
    ∷ short (codes "CSdsp") CssDouble 2 7 0 None None x (unsigned 6 8 All)
    ∷ short (codes "CFsd") CsDouble 0 5 0 None xc fc (unsigned 5 8 All)
    ∷ short (codes "CSw") CsWord 0 6 0 None xc xc (unsigned 5 4 All)
    ∷ short (codes "CSd") CsDouble 0 7 0 None xc xc (unsigned 5 8 All)
    ∷ short (codes "CFld") ClDouble 0 1 0 fc xc None (unsigned 5 8 All)
    ∷ short (codes "CLw") ClWord 0 2 0 xc xc None (unsigned 5 4 All)
    ∷ short (codes "CLd") ClDouble 0 3 0 xc xc None (unsigned 5 8 All)
    ∷ []

abbrev pub count : ℕ
count = 233

abbrev pub no_entry : Entry
no_entry = scalar [] R 0 0 0 None None None None

abbrev pub form_at : ℕ → Form
form_at k = (slice_index_or operations k no_entry).form

-- a row of the code's table, as an entry
abbrev pub entry_of : Row → Entry
entry_of r = record { name = r.name.now; form = r.form }
