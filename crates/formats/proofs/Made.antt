-- Operands that stand in given fields.
use Rattle.std.proofs.Common.{◌≡◌, ◌^◌, ◌<◌, List, subst}
use Rattle.bits.specs.declared.part.Field.{Field}
use Rattle.bits.specs.declared.part.Field.TheVariants.{D, A, B, N, M, Opcode, Funct3, Funct}
use Rattle.bits.specs.declared.part.Part.{Part}
use Rattle.bits.specs.declared.part.Values.{Values}
use Rattle.bits.specs.Layout.{value_at, span, Fit}
use Rattle.formats.specs.declared.kind.Kind.{Kind}
use Rattle.formats.specs.Layouts.{layout}
use Rattle.formats.specs.Lawful.{Fits, Spans}

-- fields that agree one by one are equal
pub same_values : {v u : Values} → v.d ≡ u.d → v.a ≡ u.a → v.b ≡ u.b → v.n ≡ u.n → v.m ≡ u.m → v.opcode ≡ u.opcode → v.funct3 ≡ u.funct3 → v.funct ≡ u.funct → v ≡ u
same_values d a b n m opcode funct3 funct = λ i. record {
  d = d i;
  a = a i;
  b = b i;
  n = n i;
  m = m i;
  opcode = opcode i;
  funct3 = funct3 i;
  funct = funct i;
}

-- fields that fit a layout fit any with fields as wide
pub fit_as : (s t : List Part) → ((f : Field) → span s f ≡ span t f) → (v : Values) → Fit s v → Fit t v
fit_as s t w v h f = subst (λ n. value_at f v < 2 ^ n) (w f) (h f)

-- fields that fit a layout fit the format that has it
pub fits_of : (k : Kind) (v : Values) → Fit (layout k) v → Fits k v
fits_of k v h = record { d = h D; a = h A; b = h B; n = h N; m = h M; opcode = h Opcode; funct3 = h Funct3; funct = h Funct }

-- fields that fit one by one
pub fit_at : {k : Kind} {v : Values} → Fits k v → Fit (layout k) v
fit_at h D = h.d
fit_at h A = h.a
fit_at h B = h.b
fit_at h N = h.n
fit_at h M = h.m
fit_at h Opcode = h.opcode
fit_at h Funct3 = h.funct3
fit_at h Funct = h.funct

-- fields that are as wide one by one
pub spans_at : {j k : Kind} → Spans j k → (f : Field) → span (layout j) f ≡ span (layout k) f
spans_at w D = w.d
spans_at w A = w.a
spans_at w B = w.b
spans_at w N = w.n
spans_at w M = w.m
spans_at w Opcode = w.opcode
spans_at w Funct3 = w.funct3
spans_at w Funct = w.funct
