-- The codes of the compressed operations, as the C extension prints them, and of the widths of vector elements.
use Rattle.std.specs.Prelude.{ℕ}
use Rattle.args.specs.declared.COpcodeSpace.{COpcodeSpace}
use Rattle.args.specs.declared.COpcodeSpace.TheVariants.{C0, C1, C2}
use Rattle.args.specs.declared.VecElementWidth.{VecElementWidth}
use Rattle.args.specs.declared.VecElementWidth.TheVariants.{E8, E16, E32, E64}
use Rattle.args.specs.declared.CrOp.{CrOp}
use Rattle.args.specs.declared.CrOp.TheVariants as CrOp-variant
use Rattle.args.specs.declared.CaOp.{CaOp}
use Rattle.args.specs.declared.CaOp.TheVariants as CaOp-variant
use Rattle.args.specs.declared.CjOp.{CjOp}
use Rattle.args.specs.declared.CjOp.TheVariants as CjOp-variant
use Rattle.args.specs.declared.CiOp.{CiOp}
use Rattle.args.specs.declared.CiOp.TheVariants as CiOp-variant
use Rattle.args.specs.declared.CiwOp.{CiwOp}
use Rattle.args.specs.declared.CiwOp.TheVariants as CiwOp-variant
use Rattle.args.specs.declared.CbOp.{CbOp}
use Rattle.args.specs.declared.CbOp.TheVariants as CbOp-variant
use Rattle.args.specs.declared.CssOp.{CssOp}
use Rattle.args.specs.declared.CssOp.TheVariants as CssOp-variant
use Rattle.args.specs.declared.CsOp.{CsOp}
use Rattle.args.specs.declared.CsOp.TheVariants as CsOp-variant
use Rattle.args.specs.declared.ClOp.{ClOp}
use Rattle.args.specs.declared.ClOp.TheVariants as ClOp-variant

abbrev pub space : COpcodeSpace → ℕ
space C0 = 0
space C1 = 1
space C2 = 2

abbrev pub CrOp-op : CrOp → COpcodeSpace
CrOp-op CrOp-variant.CMv = C2
CrOp-op CrOp-variant.CAdd = C2
CrOp-op CrOp-variant.CJr = C2
CrOp-op CrOp-variant.CJalr = C2
CrOp-op CrOp-variant.CEbreak = C2

abbrev pub CrOp-funct4 : CrOp → ℕ
CrOp-funct4 CrOp-variant.CMv = 8
CrOp-funct4 CrOp-variant.CAdd = 9
CrOp-funct4 CrOp-variant.CJr = 8
CrOp-funct4 CrOp-variant.CJalr = 9
CrOp-funct4 CrOp-variant.CEbreak = 9

abbrev pub CaOp-op : CaOp → COpcodeSpace
CaOp-op CaOp-variant.CAnd = C1
CaOp-op CaOp-variant.COr = C1
CaOp-op CaOp-variant.CXor = C1
CaOp-op CaOp-variant.CSub = C1
CaOp-op CaOp-variant.CAddw = C1
CaOp-op CaOp-variant.CSubw = C1
CaOp-op CaOp-variant.CMul = C1

abbrev pub CaOp-funct2 : CaOp → ℕ
CaOp-funct2 CaOp-variant.CAnd = 3
CaOp-funct2 CaOp-variant.COr = 2
CaOp-funct2 CaOp-variant.CXor = 1
CaOp-funct2 CaOp-variant.CSub = 0
CaOp-funct2 CaOp-variant.CAddw = 1
CaOp-funct2 CaOp-variant.CSubw = 0
CaOp-funct2 CaOp-variant.CMul = 2

abbrev pub CaOp-funct6 : CaOp → ℕ
CaOp-funct6 CaOp-variant.CAnd = 35
CaOp-funct6 CaOp-variant.COr = 35
CaOp-funct6 CaOp-variant.CXor = 35
CaOp-funct6 CaOp-variant.CSub = 35
CaOp-funct6 CaOp-variant.CAddw = 39
CaOp-funct6 CaOp-variant.CSubw = 39
CaOp-funct6 CaOp-variant.CMul = 39

abbrev pub CjOp-op : CjOp → COpcodeSpace
CjOp-op CjOp-variant.CJ = C1

abbrev pub CjOp-funct3 : CjOp → ℕ
CjOp-funct3 CjOp-variant.CJ = 5

abbrev pub CiOp-op : CiOp → COpcodeSpace
CiOp-op CiOp-variant.CAddi = C1
CiOp-op CiOp-variant.CAddiw = C1
CiOp-op CiOp-variant.CAddi16sp = C1
CiOp-op CiOp-variant.CLi = C1
CiOp-op CiOp-variant.CLui = C1
CiOp-op CiOp-variant.CSlli = C2
CiOp-op CiOp-variant.CLwsp = C2
CiOp-op CiOp-variant.CLdsp = C2
CiOp-op CiOp-variant.CFldsp = C2

abbrev pub CiOp-funct3 : CiOp → ℕ
CiOp-funct3 CiOp-variant.CAddi = 0
CiOp-funct3 CiOp-variant.CAddiw = 1
CiOp-funct3 CiOp-variant.CAddi16sp = 3
CiOp-funct3 CiOp-variant.CLi = 2
CiOp-funct3 CiOp-variant.CLui = 3
CiOp-funct3 CiOp-variant.CSlli = 0
CiOp-funct3 CiOp-variant.CLwsp = 2
CiOp-funct3 CiOp-variant.CLdsp = 3
CiOp-funct3 CiOp-variant.CFldsp = 1

abbrev pub CiwOp-op : CiwOp → COpcodeSpace
CiwOp-op CiwOp-variant.CAddi4spn = C0

abbrev pub CiwOp-funct3 : CiwOp → ℕ
CiwOp-funct3 CiwOp-variant.CAddi4spn = 0

abbrev pub CbOp-op : CbOp → COpcodeSpace
CbOp-op CbOp-variant.CSrli = C1
CbOp-op CbOp-variant.CSrai = C1
CbOp-op CbOp-variant.CAndi = C1

abbrev pub CbOp-funct3 : CbOp → ℕ
CbOp-funct3 CbOp-variant.CSrli = 4
CbOp-funct3 CbOp-variant.CSrai = 4
CbOp-funct3 CbOp-variant.CAndi = 4

abbrev pub CbOp-funct2 : CbOp → ℕ
CbOp-funct2 CbOp-variant.CSrli = 0
CbOp-funct2 CbOp-variant.CSrai = 1
CbOp-funct2 CbOp-variant.CAndi = 2

abbrev pub CssOp-op : CssOp → COpcodeSpace
CssOp-op CssOp-variant.CFsdsp = C2
CssOp-op CssOp-variant.CSwsp = C2
CssOp-op CssOp-variant.CSdsp = C2

abbrev pub CssOp-funct3 : CssOp → ℕ
CssOp-funct3 CssOp-variant.CFsdsp = 5
CssOp-funct3 CssOp-variant.CSwsp = 6
CssOp-funct3 CssOp-variant.CSdsp = 7

abbrev pub CsOp-op : CsOp → COpcodeSpace
CsOp-op CsOp-variant.CFsd = C0
CsOp-op CsOp-variant.CSw = C0
CsOp-op CsOp-variant.CSd = C0

abbrev pub CsOp-funct3 : CsOp → ℕ
CsOp-funct3 CsOp-variant.CFsd = 5
CsOp-funct3 CsOp-variant.CSw = 6
CsOp-funct3 CsOp-variant.CSd = 7

abbrev pub ClOp-op : ClOp → COpcodeSpace
ClOp-op ClOp-variant.CFld = C0
ClOp-op ClOp-variant.CLw = C0
ClOp-op ClOp-variant.CLd = C0

abbrev pub ClOp-funct3 : ClOp → ℕ
ClOp-funct3 ClOp-variant.CFld = 1
ClOp-funct3 ClOp-variant.CLw = 2
ClOp-funct3 ClOp-variant.CLd = 3

abbrev pub width_code : VecElementWidth → ℕ
width_code E8 = 0
width_code E16 = 5
width_code E32 = 6
width_code E64 = 7
