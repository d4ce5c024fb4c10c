use Rattle.std.proofs.Common.{ℕ, List, ◌++◌, take, drop, arith, length-append}
use Rattle.printing.specs.Printed.{printed}
use Rattle.printing.specs.Words.{words_from}
use Rattle.printing.proofs.Printed.{printed_rows, row_fits}
use Rattle.printing.proofs.words.write_rows.Goals as goal

pub loop-address-init : goal.loop-address-init
loop-address-init g c =
    let words = c.args.words in
    let e = c.into_iter-address-iterator.ensures.into_iter_gives in
    let p = printed_rows words.place (drop words.place (take words.used (g.S.Store.halfwords words.store.now))) in
    simp (e, p)

pub write_row-requires : goal.write_row-requires
write_row-requires g c =
    let all = c.args.words in
    let lines = printed all.place (drop all.place (take all.used (g.S.Store.halfwords all.store.now))) in
    let left = λ (at used : ℕ) (halfwords : List ℕ). words_from at (drop at (take used halfwords)) in
    let words = c.loop-address.address-iterator in
    let after = c.next.new.self in
    omega (
      arith,
      c.requires,
      length-append c.args.text.now lines,
      row_fits c.loop-address.text (c.args.text.now ++ lines) c.in-Some.address c.in-Some.word (left words.place words.used (g.S.Store.halfwords words.store.now)) (left after.place after.used (g.S.Store.halfwords after.store.now)) c.loop-address.invariant c.in-Some.ensures.steps,
    )
