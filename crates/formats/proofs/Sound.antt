-- Every format's layout is sound, and fields that fit it one by one fit it.
use Rattle.std.proofs.Common.{◌≡◌, ◌^◌, ◌<◌, true, List, refl}
use Rattle.bits.specs.declared.part.Field.TheVariants.{D, A, B, N, M, Opcode, Funct3, Funct}
use Rattle.bits.specs.declared.part.Part.{Part}
use Rattle.bits.specs.declared.part.Values.{Values}
use Rattle.bits.specs.Layout.{span, sound, Fit}
use Rattle.formats.specs.declared.kind.Kind.{Kind}
use Rattle.formats.specs.declared.kind.Kind.TheVariants as kind
use Rattle.formats.specs.Layouts.{layout}

pub layout_sound : (k : Kind) → sound (layout k) ≡ true
layout_sound kind.R = refl
layout_sound kind.I = refl
layout_sound kind.S = refl
layout_sound kind.U = refl
layout_sound kind.B = refl
layout_sound kind.J = refl
layout_sound kind.V = refl
layout_sound kind.VImm = refl
layout_sound kind.VMem = refl
layout_sound kind.Cr = refl
layout_sound kind.Cr2 = refl
layout_sound kind.CrBare = refl
layout_sound kind.Ca = refl
layout_sound kind.Cj = refl
layout_sound kind.Ci = refl
layout_sound kind.CiLwsp = refl
layout_sound kind.CiLdsp = refl
layout_sound kind.CiAddi16sp = refl
layout_sound kind.Ciw = refl
layout_sound kind.Cb = refl
layout_sound kind.CssWord = refl
layout_sound kind.CssDouble = refl
layout_sound kind.CsWord = refl
layout_sound kind.CsDouble = refl
layout_sound kind.ClWord = refl
layout_sound kind.ClDouble = refl

pub fit_of : (s : List Part) (v : Values) → v.d < 2 ^ span s D → v.a < 2 ^ span s A → v.b < 2 ^ span s B → v.n < 2 ^ span s N → v.m < 2 ^ span s M → v.opcode < 2 ^ span s Opcode → v.funct3 < 2 ^ span s Funct3 → v.funct < 2 ^ span s Funct → Fit s v
fit_of s v hd ha hb hn hm ho h3 hf D = hd
fit_of s v hd ha hb hn hm ho h3 hf A = ha
fit_of s v hd ha hb hn hm ho h3 hf B = hb
fit_of s v hd ha hb hn hm ho h3 hf N = hn
fit_of s v hd ha hb hn hm ho h3 hf M = hm
fit_of s v hd ha hb hn hm ho h3 hf Opcode = ho
fit_of s v hd ha hb hn hm ho h3 hf Funct3 = h3
fit_of s v hd ha hb hn hm ho h3 hf Funct = hf
