-- What holds of items, in the terms that a program's theorem rests on. Assumes nothing.
use Rattle.std.specs.Prelude.{◌≡◌, ℕ, ◌+◌, ◌%◌, ◌≤◌, true, false, cond, ◌⊎◌, List, ◌++◌, map, length, ℤ, Some, ◌==◌, slice_index}
use Rattle.store.specs.Puts.{applied, puts}
use Rattle.instructions.specs.declared.instruction.Instruction.{Instruction}
use Rattle.reading.specs.Reading.{listing}
use Rattle.items.specs.Items.{Item, item_of, Lawful, AllLawful, words, halfs, jumps, in_reach, aimed_at, distance_of, jump_standing}
use Rattle.items.specs.Pairs.{register_ok, makeable, upper, lower, pair, held_at}

pub record ItemLaws : Type 0 where
  -- an item has one or two halfwords
  pub some : (i : Item) → 1 ≤ length (words i)
  pub few : (i : Item) → length (words i) ≤ 2
  -- lawful items are known by their halfwords
  pub once : (is : List Instruction) (code : List Item) → AllLawful code → listing is ≡ halfs code → map item_of is ≡ code
  -- an instruction is lawful
  pub lawful : (i : Instruction) → Lawful (item_of i)

pub record JumpLaws : Type 0 where
  -- a jump at another distance: as long, lawful where it is in reach, and with that distance
  pub sized : (i : Item) (z : ℤ) → length (words (aimed_at i z)) ≡ length (words i)
  pub aimed : (i : Item) (z : ℤ) → Lawful i → jumps i ≡ true → in_reach i z ≡ true → Lawful (aimed_at i z)
  pub still : (i : Item) (z : ℤ) → jumps (aimed_at i z) ≡ jumps i
  pub told : (i : Item) (z : ℤ) → distance_of (aimed_at i z) ≡ z
  -- a jump that stands at a place is found there, and what is found there is a jump that stands there
  pub found : (i : Item) (before after : List ℕ) (used : ℕ) → Lawful i → jumps i ≡ true → length before + length (words i) ≤ used → jump_standing (before ++ (words i ++ after)) used (length before) ≡ Some i
  pub stands : (cells : List ℕ) (used p : ℕ) (i : Item) → jump_standing cells used p ≡ Some i → Lawful i × (jumps i ≡ true) × (p + length (words i) ≤ used) × (p + length (words i) ≤ length cells)
  -- the low two bits of its first halfword tell how many halfwords it has
  pub length_by : (cells : List ℕ) (used p : ℕ) (i : Item) → jump_standing cells used p ≡ Some i → length (words i) ≡ cond (slice_index cells p % 4 == 3) 2 1
  -- halfwords put elsewhere leave it, and its own halfwords at another distance make it that jump
  pub left : (cells : List ℕ) (used p : ℕ) (i : Item) (q : ℕ) (hs : List ℕ) → jump_standing cells used p ≡ Some i → (p + length (words i) ≤ q) ⊎ (q + length hs ≤ p) → jump_standing (applied (puts q hs) cells) used p ≡ Some i
  pub put : (cells : List ℕ) (used p : ℕ) (i : Item) (z : ℤ) → jump_standing cells used p ≡ Some i → in_reach i z ≡ true → jump_standing (applied (puts p (words (aimed_at i z))) cells) used p ≡ Some (aimed_at i z)

pub record PairLaws : Type 0 where
  -- a constant's two items: lawful, no jumps, of two halfwords each, and they hold the constant
  pub upper_lawful : (d v : ℤ) → register_ok d ≡ true → makeable v ≡ true → Lawful (upper d v)
  pub lower_lawful : (d v : ℤ) → register_ok d ≡ true → makeable v ≡ true → Lawful (lower d v)
  pub upper_stays : (d v : ℤ) → jumps (upper d v) ≡ false
  pub lower_stays : (d v : ℤ) → jumps (lower d v) ≡ false
  pub upper_two : (d v : ℤ) → length (words (upper d v)) ≡ 2
  pub lower_two : (d v : ℤ) → length (words (lower d v)) ≡ 2
  pub holds : (d v : ℤ) (before after : List ℕ) → register_ok d ≡ true → makeable v ≡ true → held_at (before ++ (pair d v ++ after)) (length before) ≡ v
