-- An upper and a lower immediate are known by the number that they make.
use Rattle.std.proofs.Common.{◌≡◌, ℤ, arith}
use Rattle.std.proofs.lemmas.Int.{ints}
use Rattle.operands.specs.Ranges.{Within12, made}
use Rattle.operands.specs.declared.imms.Signed.{Signed}
use Rattle.operands.proofs.Sames.{same_value}

same_high : (g h l m : ℤ) → Within12 l → Within12 m → made g l ≡ made h m → g ≡ h
same_high g h l m wl wm e = omega (arith, ints)

same_low : (g h l m : ℤ) → Within12 l → Within12 m → made g l ≡ made h m → l ≡ m
same_low g h l m wl wm e = omega (arith, ints)

pub one_pair : (g h : Signed 20) (l m : Signed 12) → made g.value l.value ≡ made h.value m.value → ◌≡◌ {A = Signed 20 × Signed 12} (g, l) (h, m)
one_pair g h l m e =
    let x = same_high g.value h.value l.value m.value l.ok m.ok e in
    let y = same_low g.value h.value l.value m.value l.ok m.ok e in
    λ i. (same_value g h x i, same_value l m y i)
