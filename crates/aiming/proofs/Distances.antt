-- The distance of a jump: an even number in reach, and its bits.
use Rattle.std.proofs.Common.{◌≡◌, ℕ, zero, suc, ◌-◌, ◌*◌, ◌/◌, ◌%◌, ◌^◌, ◌<◌, ◌≤◌, Bool, true, false, cond, ◌&&◌, eqb, Some, None, Option, ℤ, pos, negsuc, sym, refl, ap, ◌∙◌, subst, ap₂, mod-eq_of_lt, arith}
use Rattle.std.proofs.Math.Nat.{pow-succ'}
use Rattle.std.proofs.Math.Pow.{pow_pos}
use Rattle.std.specs.List.{list_all}
use Rattle.std.proofs.lemmas.Bool.{eqb-true, and_parts}
use Rattle.std.proofs.lemmas.Bool.Decides.{nat_tests}
use Rattle.std.proofs.lemmas.Int.{ints}
use Rattle.bits.specs.declared.part.Field.TheVariants.{N}
use Rattle.bits.specs.Layout.{span}
use Rattle.operands.specs.Ranges.{InReach, halved}
use Rattle.formats.specs.declared.kind.Kind.{Kind}
use Rattle.formats.specs.Layouts.{layout}
use Rattle.operations.specs.declared.row.Allowed.TheVariants.{All, NonZero, GroupSize}
use Rattle.operations.specs.declared.row.Number.{Number}
use Rattle.operations.specs.declared.row.Number.TheVariants.{Signed, Unsigned}
use Rattle.operations.specs.declared.row.Form.{Form}
use Rattle.operations.specs.Manual.{Entry, operations, form_at, no_entry, count}
use Rattle.instructions.specs.Faults.{number_ok, reaches}
use Rattle.instructions.specs.Words.{raw_number}
use Rattle.instructions.proofs.Checks.{every_at}
use Rattle.aiming.specs.Standing.{Reaches}
use Rattle.reading.proofs.Apart.{in_table}

-- ---- every jump of the table has an even signed constant, as wide as its format has it

abbrev is_distance : ℕ → Option Number → Bool
is_distance w None = false
is_distance w (Some (Signed k u All)) = eqb k w && eqb u 2
is_distance w (Some (Signed k u NonZero)) = false
is_distance w (Some (Signed k u GroupSize)) = false
is_distance w (Some (Unsigned k u a)) = false

abbrev jump_test : Form → Bool
jump_test r = cond (reaches r.kind) (is_distance (span (layout r.kind) N) r.n) true

all_distances : list_all (λ (e : Entry). jump_test e.form) operations ≡ true
unfolding operations
all_distances = refl

distance_is : (w : ℕ) (c : Option Number) → is_distance w c ≡ true → c ≡ Some (Signed w 2 All)
distance_is w None t = cc
distance_is w (Some (Signed k u All)) t = let z = and_parts (eqb k w) (eqb u 2) t in ap₂ (λ x y. Some (Signed x y All)) (eqb-true k w z.0) (eqb-true u 2 z.1)
distance_is w (Some (Signed k u NonZero)) t = cc
distance_is w (Some (Signed k u GroupSize)) t = cc
distance_is w (Some (Unsigned k u a)) t = cc

pub jump_number : (k : ℕ) → k < count → reaches (form_at k).kind ≡ true → (form_at k).n ≡ Some (Signed (span (layout (form_at k).kind) N) 2 All)
jump_number k h j =
    let r = form_at k in
    let s = span (layout r.kind) N in
    distance_is s r.n (ap (λ b. cond b (is_distance s r.n) true) (sym j) ∙ every_at (λ (e : Entry). jump_test e.form) operations no_entry all_distances k (in_table h))

-- ---- which numbers are distances, and their bits

-- what is said of a number as a distance
pub record Distances (c : Option Number) (least greatest : ℤ) (aim : ℤ → ℕ) : Type 0 where
  pub near : (z : ℤ) → number_ok c z ≡ true → InReach least greatest z
  pub ok : (z : ℤ) → InReach least greatest z → number_ok c z ≡ true
  pub bits : (z : ℤ) → number_ok c z ≡ true → raw_number c z ≡ aim z

-- k bits in units of two bytes: 2 * H even numbers, from -2 * H to 2 * H - 2
module _ (k H : ℕ) (some : 0 < H) (half : 2 ^ (k - 1) ≡ H) (whole : 2 ^ k ≡ 2 * H) (twice : 2 ^ suc k ≡ 4 * H) where
  in_reach : (z : ℤ) → number_ok (Some (Signed k 2 All)) z ≡ true → InReach (negsuc (2 * H - 1)) (pos (2 * H - 2)) z
  in_reach (pos n) t =
      let e : n % 2 ≡ 0 = grind (arith, nat_tests) in
      let l : n / 2 < 2 ^ (k - 1) = grind (arith, nat_tests) in
      (omega (arith, ints), omega (arith, ints), e)
  in_reach (negsuc n) t =
      let e : suc n % 2 ≡ 0 = grind (arith, nat_tests) in
      let l : suc n / 2 ≤ 2 ^ (k - 1) = grind (arith, nat_tests) in
      (omega (arith, ints), omega (arith, ints), e)

  in_range : (z : ℤ) → InReach (negsuc (2 * H - 1)) (pos (2 * H - 2)) z → number_ok (Some (Signed k 2 All)) z ≡ true
  in_range (pos n) r =
      let e : n % 2 ≡ 0 = r.2 in
      let l : n / 2 < 2 ^ (k - 1) = omega (arith, ints) in
      grind (arith, nat_tests)
  in_range (negsuc n) r =
      let e : suc n % 2 ≡ 0 = r.2 in
      let l : suc n / 2 ≤ 2 ^ (k - 1) = omega (arith, ints) in
      grind (arith, nat_tests)

  its_bits : (z : ℤ) → number_ok (Some (Signed k 2 All)) z ≡ true → raw_number (Some (Signed k 2 All)) z ≡ halved k z
  its_bits (pos n) t =
      let l : n / 2 < 2 ^ (k - 1) = grind (arith, nat_tests) in
      let m : n % 2 ^ suc k ≡ n = mod-eq_of_lt (omega arith) in
      ap (λ x. x / 2) (sym m)
  its_bits (negsuc n) t =
      let e : suc n % 2 ≡ 0 = grind (arith, nat_tests) in
      let l : suc n / 2 ≤ 2 ^ (k - 1) = grind (arith, nat_tests) in
      let m : n % 2 ^ suc k ≡ n = mod-eq_of_lt (omega arith) in
      let q : 2 ^ k - suc n / 2 ≡ (2 ^ suc k - suc n) / 2 = omega arith in
      q ∙ ap (λ x. (2 ^ suc k - suc x) / 2) (sym m)

  distances : Distances (Some (Signed k 2 All)) (negsuc (2 * H - 1)) (pos (2 * H - 2)) (halved k)
  distances = record { near = in_reach; ok = in_range; bits = its_bits }

power : (j : ℕ) → 2 ^ suc j ≡ 2 * 2 ^ j
power j = pow-succ' 2 j

some_power : (j : ℕ) → 0 < 2 ^ j
some_power j = pow_pos j

-- any width
pub distances_of : (k : ℕ) → 0 < k → Distances (Some (Signed k 2 All)) (negsuc (2 ^ k - 1)) (pos (2 ^ k - 2)) (halved k)
distances_of zero h = absurd (omega arith)
distances_of (suc j) h =
    let e : 2 ^ suc j ≡ 2 * 2 ^ j = power j in
    let half : 2 ^ (suc j - 1) ≡ 2 ^ j = ap (λ n. 2 ^ n) (omega arith) in
    let twice : 2 ^ suc (suc j) ≡ 4 * 2 ^ j = let f = power (suc j) in omega (arith, e, f) in
    subst (λ n. Distances (Some (Signed (suc j) 2 All)) (negsuc (n - 1)) (pos (n - 2)) (halved (suc j))) (sym e) (distances (suc j) (2 ^ j) (some_power j) half e twice)

-- the three formats
pub distances_B : Distances (Some (Signed 12 2 All)) (negsuc 4095) (pos 4094) (halved 12)
distances_B = distances 12 2048 (omega arith) refl refl refl

pub distances_J : Distances (Some (Signed 20 2 All)) (negsuc 1048575) (pos 1048574) (halved 20)
distances_J = distances 20 524288 (omega arith) refl refl refl

pub distances_Cj : Distances (Some (Signed 11 2 All)) (negsuc 2047) (pos 2046) (halved 11)
distances_Cj = distances 11 1024 (omega arith) refl refl refl

-- in a format's jumps the constant is such a distance
pub reach_exactly : (K : Kind) (least greatest : ℤ) (aim : ℤ → ℕ) → reaches K ≡ true → Distances (Some (Signed (span (layout K) N) 2 All)) least greatest aim → Reaches K (InReach least greatest)
reach_exactly K least greatest aim j D k z h p =
    let n : (form_at k).n ≡ Some (Signed (span (layout K) N) 2 All) = jump_number k h (ap reaches p ∙ j) ∙ ap (λ K. Some (Signed (span (layout K) N) 2 All)) p in
    let E = subst (λ c. Distances c least greatest aim) (sym n) D in
    (E.near z, E.ok z)
