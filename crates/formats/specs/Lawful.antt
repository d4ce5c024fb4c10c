-- When operands are lawful, what an encoder answers, and which fields fit a format.
use Rattle.std.specs.Prelude.{◌≡◌, ℕ, ◌^◌, ◌<◌, cond, List, [], ◌∷◌, Some, None, Ok, Err, Option, Result, nat_lt}
use Rattle.bits.specs.declared.part.Values.{Values}
use Rattle.bits.specs.declared.part.Field.TheVariants.{D, A, B, N, M, Opcode, Funct3, Funct}
use Rattle.bits.specs.Layout.{span}
use Rattle.formats.specs.declared.kind.Kind.{Kind}
use Rattle.formats.specs.declared.faults.WideCode.{WideCode}
use Rattle.formats.specs.Layouts.{layout}

-- a number that may have so many bits, and what is said of one that has more
pub data Check : Type 0 where
  check : ℕ → ℕ → (ℕ → WideCode) → Check

-- the first code that is too wide
abbrev pub first_wide : List Check → Option WideCode
first_wide [] = None
first_wide (check v k e ∷ s) = cond (nat_lt v (2 ^ k)) (first_wide s) (Some (e v))

-- no code is too wide
abbrev pub Narrow : List Check → Type 0
Narrow [] = Unit {0}
Narrow (check v k e ∷ s) = (v < 2 ^ k) × Narrow s

-- what an encoder answers: the fault, or the word where there is none
abbrev pub outcome : {A E : Type 0} → Option E → A → Result A E
outcome None w = Ok w
outcome (Some e) w = Err e

-- the fields fit the format's layout: each has as many bits as stand there, or fewer
pub record Fits (k : Kind) (v : Values) : Type 0 where
  pub d : v.d < 2 ^ span (layout k) D
  pub a : v.a < 2 ^ span (layout k) A
  pub b : v.b < 2 ^ span (layout k) B
  pub n : v.n < 2 ^ span (layout k) N
  pub m : v.m < 2 ^ span (layout k) M
  pub opcode : v.opcode < 2 ^ span (layout k) Opcode
  pub funct3 : v.funct3 < 2 ^ span (layout k) Funct3
  pub funct : v.funct < 2 ^ span (layout k) Funct

-- the fields of one format are as wide as those of the other
pub record Spans (j k : Kind) : Type 0 where
  pub d : span (layout j) D ≡ span (layout k) D
  pub a : span (layout j) A ≡ span (layout k) A
  pub b : span (layout j) B ≡ span (layout k) B
  pub n : span (layout j) N ≡ span (layout k) N
  pub m : span (layout j) M ≡ span (layout k) M
  pub opcode : span (layout j) Opcode ≡ span (layout k) Opcode
  pub funct3 : span (layout j) Funct3 ≡ span (layout k) Funct3
  pub funct : span (layout j) Funct ≡ span (layout k) Funct
