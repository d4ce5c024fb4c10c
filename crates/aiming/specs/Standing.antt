-- The instruction that a word is, and the jump that stands at a place. An instruction is told by its operation's place in the table,
-- with its fields.
use Rattle.std.specs.Prelude.{◌≡◌, ℕ, zero, suc, ◌<◌, Bool, true, cond, ◌&&◌, List, length, take, ℤ, Some, None, Option, ◌==◌}
use Rattle.store.specs.Puts.{applied, puts}
use Rattle.bits.specs.Layout.{picks}
use Rattle.operands.specs.Ranges.{ReachB, ReachJ, ReachCj}
use Rattle.formats.specs.declared.kind.Kind.{Kind}
use Rattle.formats.specs.declared.kind.Kind.TheVariants.{B, J, Cj}
use Rattle.formats.specs.Layouts.{layout}
use Rattle.operations.specs.Manual.{form_at, count}
use Rattle.instructions.specs.declared.fields.Fields.{Fields}
use Rattle.instructions.specs.declared.instruction.Instruction.{Instruction}
use Rattle.instructions.specs.Faults.{lawful, number_ok, reaches}
use Rattle.instructions.specs.declared.word.Halfwords.{Halfwords}
use Rattle.instructions.specs.Words.{word_of, halfwords_of, listed}
use Rattle.reading.specs.Fields.{fields_of}
use Rattle.reading.specs.Places.{word_at}

-- the fields that stand in the word w where the operation k has its own
abbrev pub found_in : ℕ → ℕ → Fields
found_in k w = fields_of (form_at k) (picks (layout (form_at k).kind) w)

-- they are lawful, and w is their word
abbrev pub is_one : ℕ → ℕ → Bool
is_one k w = lawful (form_at k) (found_in k w) && word_of (form_at k) (found_in k w) == w

-- w as an instruction of one of the first n operations
unfoldable pub among : ℕ → ℕ → Option (ℕ × Fields)
among zero w = None
among (suc k) w = cond (is_one k w) (Some (k, found_in k w)) (among k w)

-- the instruction whose word is w
unfoldable pub instruction_of : ℕ → Option (ℕ × Fields)
instruction_of w = among count w

-- it is an instruction exactly when w is that instruction's word; it has no other answer
pub record InstructionOfExactly : Type 0 where
  pub exactly : (w k : ℕ) (f : Fields) → k < count → lawful (form_at k) f ≡ true → (instruction_of w ≡ Some (k, f) → word_of (form_at k) f ≡ w) × (word_of (form_at k) f ≡ w → instruction_of w ≡ Some (k, f))
  pub lawful_only : (w k : ℕ) (f : Fields) → instruction_of w ≡ Some (k, f) → (k < count) × (lawful (form_at k) f ≡ true)

abbrev pub spelled : Option Instruction → Option (ℕ × Fields)
spelled None = None
spelled (Some i) = Some (i.op.place, i.fields)

-- a jump, and no other instruction
abbrev pub reaching_only : Option (ℕ × Fields) → Option (ℕ × Fields)
reaching_only None = None
reaching_only (Some i) = cond (reaches (form_at i.0).kind) (Some i) None

-- the jump whose word it is, if there is a word
abbrev pub jump_in : Option ℕ → Option (ℕ × Fields)
jump_in None = None
jump_in (Some w) = reaching_only (instruction_of w)

-- the jump whose whole word begins at the place p of the first `used` halfwords
abbrev pub jump_at : List ℕ → ℕ → ℕ → Option (ℕ × Fields)
jump_at cells used p = jump_in (word_at (take used cells) p)

-- the same fields, the constant being z
abbrev pub at_distance : Fields → ℤ → Fields
at_distance f z = record { d = f.d; a = f.a; b = f.b; n = z; m = f.m }

-- the same jump at another distance: none where that is odd or out of its reach
abbrev pub aimed : Option (ℕ × Fields) → ℤ → Option (ℕ × Fields)
aimed None z = None
aimed (Some i) z = cond (number_ok (form_at i.0).n z) (Some (i.0, at_distance i.1 z)) None

-- an instruction's word, and its halfwords
abbrev pub worded : Option (ℕ × Fields) → Option ℕ
worded None = None
worded (Some i) = Some (word_of (form_at i.0) i.1)

abbrev pub halfwords_found : Option (ℕ × Fields) → Option (List ℕ)
halfwords_found None = None
halfwords_found (Some i) = Some (halfwords_of i.0 i.1)

abbrev pub listed_of : Option Halfwords → Option (List ℕ)
listed_of None = None
listed_of (Some h) = Some (listed h)

-- ---- laws

-- the jumps of a format reach exactly the distances that R tells
abbrev pub Reaches : Kind → (ℤ → Type 0) → Type 0
Reaches K R = (k : ℕ) (z : ℤ) → k < count → (form_at k).kind ≡ K → (number_ok (form_at k).n z ≡ true → R z) × (R z → number_ok (form_at k).n z ≡ true)

pub record AimingStands : Type 0 where
  pub b_reach : Reaches B ReachB
  pub j_reach : Reaches J ReachJ
  pub cj_reach : Reaches Cj ReachCj
  -- a jump at another distance is a lawful jump, of as many halfwords
  pub lawful_still : (k : ℕ) (f : Fields) (z : ℤ) → k < count → reaches (form_at k).kind ≡ true → lawful (form_at k) f ≡ true → number_ok (form_at k).n z ≡ true → lawful (form_at k) (at_distance f z) ≡ true
  pub size_still : (k : ℕ) (f : Fields) (z : ℤ) → k < count → length (halfwords_of k (at_distance f z)) ≡ length (halfwords_of k f)
  -- and, its halfwords put where the jump stood, it stands there
  pub stands : (cells : List ℕ) (used p k : ℕ) (f : Fields) (z : ℤ) → jump_at cells used p ≡ Some (k, f) → number_ok (form_at k).n z ≡ true → jump_at (applied (puts p (halfwords_of k (at_distance f z))) cells) used p ≡ Some (k, at_distance f z)
