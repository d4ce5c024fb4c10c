-- The operations and widths by name.
use Rattle.std.specs.Prelude.{ℕ, List, [], ◌∷◌, codes, Option}
use Rattle.std.specs.List.{find}
use Rattle.std.specs.Option.{option_map}
use Rattle.std.specs.Str.{bytes_eq}
use Rattle.args.specs.declared.CrOp.{CrOp}
use Rattle.args.specs.declared.CrOp.TheVariants as cr-op-variant
use Rattle.args.specs.declared.CaOp.{CaOp}
use Rattle.args.specs.declared.CaOp.TheVariants as ca-op-variant
use Rattle.args.specs.declared.CjOp.{CjOp}
use Rattle.args.specs.declared.CjOp.TheVariants as cj-op-variant
use Rattle.args.specs.declared.CiOp.{CiOp}
use Rattle.args.specs.declared.CiOp.TheVariants as ci-op-variant
use Rattle.args.specs.declared.CiwOp.{CiwOp}
use Rattle.args.specs.declared.CiwOp.TheVariants as ciw-op-variant
use Rattle.args.specs.declared.CbOp.{CbOp}
use Rattle.args.specs.declared.CbOp.TheVariants as cb-op-variant
use Rattle.args.specs.declared.CssOp.{CssOp}
use Rattle.args.specs.declared.CssOp.TheVariants as css-op-variant
use Rattle.args.specs.declared.CsOp.{CsOp}
use Rattle.args.specs.declared.CsOp.TheVariants as cs-op-variant
use Rattle.args.specs.declared.ClOp.{ClOp}
use Rattle.args.specs.declared.ClOp.TheVariants as cl-op-variant
use Rattle.args.specs.declared.VecElementWidth.{VecElementWidth}
use Rattle.args.specs.declared.VecElementWidth.TheVariants as width-variant
use Rattle.text.specs.Fields.{text_of}
use Rattle.replay.specs.Operands.{operand_at}

-- what the first entry of a name stands for
abbrev pub meant : {A : Type 0} → List (List ℕ × A) → List ℕ → Option A
meant names t = option_map (λ e. e.1) (find (λ e. bytes_eq e.0 t) names)

abbrev pub cr_ops : List (List ℕ × CrOp)
cr_ops = (codes "CMv", cr-op-variant.CMv) ∷ (codes "CAdd", cr-op-variant.CAdd) ∷ (codes "CJr", cr-op-variant.CJr) ∷ (codes "CJalr", cr-op-variant.CJalr) ∷ (codes "CEbreak", cr-op-variant.CEbreak) ∷ []

abbrev pub ca_ops : List (List ℕ × CaOp)
ca_ops = (codes "CAnd", ca-op-variant.CAnd) ∷ (codes "COr", ca-op-variant.COr) ∷ (codes "CXor", ca-op-variant.CXor) ∷ (codes "CSub", ca-op-variant.CSub) ∷ (codes "CAddw", ca-op-variant.CAddw) ∷ (codes "CSubw", ca-op-variant.CSubw) ∷ (codes "CMul", ca-op-variant.CMul) ∷ []

abbrev pub cj_ops : List (List ℕ × CjOp)
cj_ops = (codes "CJ", cj-op-variant.CJ) ∷ []

abbrev pub ci_ops : List (List ℕ × CiOp)
ci_ops = (codes "CAddi", ci-op-variant.CAddi) ∷ (codes "CAddiw", ci-op-variant.CAddiw) ∷ (codes "CAddi16sp", ci-op-variant.CAddi16sp) ∷ (codes "CLi", ci-op-variant.CLi) ∷ (codes "CLui", ci-op-variant.CLui) ∷ (codes "CSlli", ci-op-variant.CSlli) ∷ (codes "CLwsp", ci-op-variant.CLwsp) ∷ (codes "CLdsp", ci-op-variant.CLdsp) ∷ (codes "CFldsp", ci-op-variant.CFldsp) ∷ []

abbrev pub ciw_ops : List (List ℕ × CiwOp)
ciw_ops = (codes "CAddi4spn", ciw-op-variant.CAddi4spn) ∷ []

abbrev pub cb_ops : List (List ℕ × CbOp)
cb_ops = (codes "CSrli", cb-op-variant.CSrli) ∷ (codes "CSrai", cb-op-variant.CSrai) ∷ (codes "CAndi", cb-op-variant.CAndi) ∷ []

abbrev pub css_ops : List (List ℕ × CssOp)
css_ops = (codes "CFsdsp", css-op-variant.CFsdsp) ∷ (codes "CSwsp", css-op-variant.CSwsp) ∷ (codes "CSdsp", css-op-variant.CSdsp) ∷ []

abbrev pub cs_ops : List (List ℕ × CsOp)
cs_ops = (codes "CFsd", cs-op-variant.CFsd) ∷ (codes "CSw", cs-op-variant.CSw) ∷ (codes "CSd", cs-op-variant.CSd) ∷ []

abbrev pub cl_ops : List (List ℕ × ClOp)
cl_ops = (codes "CFld", cl-op-variant.CFld) ∷ (codes "CLw", cl-op-variant.CLw) ∷ (codes "CLd", cl-op-variant.CLd) ∷ []

abbrev pub widths : List (List ℕ × VecElementWidth)
widths = (codes "E8", width-variant.E8) ∷ (codes "E16", width-variant.E16) ∷ (codes "E32", width-variant.E32) ∷ (codes "E64", width-variant.E64) ∷ []

-- what the name in a field stands for
abbrev pub named_at : {A : Type 0} → List ℕ → ℕ → List (List ℕ × A) → Option A
named_at line k names = operand_at line k (λ p. meant names (text_of p))
