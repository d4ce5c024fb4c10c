use Rattle.std.proofs.Common.{◌≡◌, Bool, true, ℤ, to_z, of_z, ap, ◌∙◌, w64, SFits, rules}
use Rattle.std.proofs.lemmas.Int.{to_z-of_z}
use Rattle.instructions.specs.Faults.{reg_ok, number_ok, mask_ok}
use Rattle.instructions.proofs.Checks.{range_at}
use Rattle.instructions.proofs.raws.raw_of.Goals as goal

-- what passes as a number passes as its bits
passed : (test : ℤ → Bool) (z : ℤ) → SFits w64 z → test z ≡ true → test (to_z w64 (of_z w64 z)) ≡ true
passed test z s t = ap test (to_z-of_z w64 z s) ∙ t

pub in_word-requires-clause-range : goal.in_word-requires-clause-range
in_word-requires-clause-range c = passed (reg_ok c.args.form.now.form.d) c.args.f.now.d (search rules) (range_at c.args.form.now.form c.args.f.now c.requires 0)

pub in_word-requires-2-clause-range : goal.in_word-requires-2-clause-range
in_word-requires-2-clause-range c = passed (reg_ok c.args.form.now.form.a) c.args.f.now.a (search rules) (range_at c.args.form.now.form c.args.f.now c.requires 1)

pub in_word-requires-3-clause-range : goal.in_word-requires-3-clause-range
in_word-requires-3-clause-range c = passed (reg_ok c.args.form.now.form.b) c.args.f.now.b (search rules) (range_at c.args.form.now.form c.args.f.now c.requires 2)

pub in_word-requires-4-clause-range : goal.in_word-requires-4-clause-range
in_word-requires-4-clause-range c = passed (number_ok c.args.form.now.form.n) c.args.f.now.n (search rules) (range_at c.args.form.now.form c.args.f.now c.requires 3)

pub in_word-requires-5-clause-range : goal.in_word-requires-5-clause-range
in_word-requires-5-clause-range c = passed (mask_ok c.args.form.now.form.m) c.args.f.now.m (search rules) (range_at c.args.form.now.form c.args.f.now c.requires 4)
