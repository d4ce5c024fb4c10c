use Rattle.std.proofs.Common.{◌≤◌, ◌*◌, length, ◌∙◌, arith, length-drop, length-take, rules}
use Rattle.std.proofs.lemmas.List.{take_rest}
use Rattle.std.proofs.lemmas.Slice.{overwrites}
use Rattle.store.proofs.Halves.{length_held, with_half_rest}
use Rattle.store.proofs.bytes.write_at.Goals as goal

pub overflow_mul-place : goal.overflow_mul-place
overflow_mul-place c = omega (arith, length_held c.args.start c.args.memory.now)

pub slice_bounds-write_two-count : goal.slice_bounds-write_two-count
slice_bounds-write_two-count c = omega (arith, length_held c.args.start c.args.memory.now)

pub slice_bounds-write_two-start : goal.slice_bounds-write_two-start
slice_bounds-write_two-start c = omega (arith, length_held c.args.start c.args.memory.now)

pub write_two-requires : goal.write_two-requires
write_two-requires c = simp (length-take, length-drop) (omega (arith, length_held c.args.start c.args.memory.now))

pub returns : goal.returns
returns c =
    let m = c.args.memory.now in
    let low : c.args.start ≤ length m = omega (arith, length_held c.args.start m) in
    search (rules, overwrites, take_rest) ∙ with_half_rest c.args.start m (2 * c.args.place) c.args.half low
