-- What a store's calls answer, over its list of halfwords. Assumes nothing.
use Rattle.std.specs.Prelude.{ℕ, ◌-◌, max, cond, List, length, Ok, Err, Result, nat_le, nat_lt}
use Rattle.store.specs.declared.store.StoreFault.{StoreFault}
use Rattle.store.specs.declared.store.StoreFault.TheVariants.{Outside}

-- the number of a refusal
abbrev pub fault_number : StoreFault → ℕ
fault_number (Outside p) = 14

-- a put at the place p: refused outside the list, and only there
abbrev pub put_answer : List ℕ → ℕ → Result (Unit {0}) StoreFault
put_answer xs p = cond (nat_lt p (length xs)) (Ok tt) (Err (Outside p))

-- a write of n halfwords from the place p up in a store of the given size: refused where a place among them lies outside, with the first such place
abbrev pub span_answer : ℕ → ℕ → ℕ → Result (Unit {0}) StoreFault
span_answer size p n = cond (nat_le n (size - p)) (Ok tt) (Err (Outside (max p size)))

-- one thing when taken, another when refused
abbrev pub when : {X E Y : Type 0} → Result X E → Y → Y → Y
when (Ok x) a b = a
when (Err e) a b = b
