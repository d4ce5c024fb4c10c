-- What fields without a fault pass.
use Rattle.std.proofs.Common.{◌≡◌, ℕ, zero, suc, ◌<◌, Bool, true, false, ◌&&◌, List, [], ◌∷◌, length, get_or, Some, None, Option, refl, le_of_suc-le-suc, not-suc-le-zero, arith}
use Rattle.std.specs.List.{list_all}
use Rattle.std.proofs.lemmas.Bool.{and_parts}
use Rattle.operations.specs.declared.row.Form.{Form}
use Rattle.instructions.specs.declared.fields.Fields.{Fields}
use Rattle.instructions.specs.declared.fields.BuildFault.{BuildFault}
use Rattle.instructions.specs.Faults.{Check, check, first, unused_checks, range_checks, rule_checks, overlap_checks, or_else, fault, is_none, lawful}

abbrev pub all : List Bool → Bool
all [] = true
all (b ∷ bs) = b && all bs

pub test : (bs : List Bool) → all bs ≡ true → (k : ℕ) → get_or bs k true ≡ true
test [] t k = refl
test (b ∷ bs) t zero = (and_parts b (all bs) t).0
test (b ∷ bs) t (suc k) = test bs (and_parts b (all bs) t).1 k

pub every_at : {A : Type 0} (f : A → Bool) (xs : List A) (d : A) → list_all f xs ≡ true → (k : ℕ) → k < length xs → f (get_or xs k d) ≡ true
every_at f [] d t k h = absurd (not-suc-le-zero h)
every_at f (x ∷ xs) d t zero h = (and_parts (f x) (list_all f xs) t).0
every_at f (x ∷ xs) d t (suc k) h = every_at f xs d (and_parts (f x) (list_all f xs) t).1 k (le_of_suc-le-suc h)

-- the tests of the checks
abbrev pub asked : List Check → List Bool
asked [] = []
asked (check b e ∷ s) = b ∷ asked s

passes : (b : Bool) (e : BuildFault) (s : List Check) → first (check b e ∷ s) ≡ None → (b ≡ true) × (first s ≡ None)
passes true e s h = (refl, h)
passes false e s h = grind (arith, h)

pub passed : (s : List Check) → first s ≡ None → (k : ℕ) → get_or (asked s) k true ≡ true
passed [] h k = refl
passed (check b e ∷ s) h zero = (passes b e s h).0
passed (check b e ∷ s) h (suc k) = passed s (passes b e s h).1 k

pub none_of : (s : List Check) → all (asked s) ≡ true → first s ≡ None
none_of [] t = refl
none_of (check true e ∷ s) t = none_of s t
none_of (check false e ∷ s) t = grind (arith, t)

or_none : (a b : Option BuildFault) → or_else a b ≡ None → (a ≡ None) × (b ≡ None)
or_none None b h = (refl, h)
or_none (Some e) b h = grind (arith, h)

pub good : (r : Form) (f : Fields) → lawful r f ≡ true → fault r f ≡ None
good r f t = go (fault r f) t
  where
    go : (o : Option BuildFault) → is_none o ≡ true → o ≡ None
    go None t = refl
    go (Some e) t = grind (arith, t)

-- no fault among those of the fields that are not used, of the ranges, of the rules, and of overlaps
pub record Clean (r : Form) (f : Fields) : Type 0 where
  pub unused : first (unused_checks r f) ≡ None
  pub ranges : first (range_checks r f) ≡ None
  pub rules : first (rule_checks r f) ≡ None
  pub overlaps : first (overlap_checks r f) ≡ None

pub clean : (r : Form) (f : Fields) → lawful r f ≡ true → Clean r f
clean r f t =
    let a = or_none (first (unused_checks r f)) (or_else (first (range_checks r f)) (or_else (first (rule_checks r f)) (first (overlap_checks r f)))) (good r f t) in
    let b = or_none (first (range_checks r f)) (or_else (first (rule_checks r f)) (first (overlap_checks r f))) a.1 in
    let c = or_none (first (rule_checks r f)) (first (overlap_checks r f)) b.1 in
    record { unused = a.0; ranges = b.0; rules = c.0; overlaps = c.1 }

-- the tests of the fields that are not used, of the ranges, and of the rules, by number
pub unused_at : (r : Form) (f : Fields) → lawful r f ≡ true → (k : ℕ) → get_or (asked (unused_checks r f)) k true ≡ true
unused_at r f t = passed (unused_checks r f) (clean r f t).unused

pub range_at : (r : Form) (f : Fields) → lawful r f ≡ true → (k : ℕ) → get_or (asked (range_checks r f)) k true ≡ true
range_at r f t = passed (range_checks r f) (clean r f t).ranges

pub rule_at : (r : Form) (f : Fields) → lawful r f ≡ true → (k : ℕ) → get_or (asked (rule_checks r f)) k true ≡ true
rule_at r f t = passed (rule_checks r f) (clean r f t).rules

pub overlap_at : (r : Form) (f : Fields) → lawful r f ≡ true → (k : ℕ) → get_or (asked (overlap_checks r f)) k true ≡ true
overlap_at r f t = passed (overlap_checks r f) (clean r f t).overlaps
