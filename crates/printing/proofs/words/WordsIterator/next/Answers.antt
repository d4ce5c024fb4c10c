use Rattle.std.proofs.Common.{length, take, ap, rules, arith}
use Rattle.std.proofs.lemmas.List.{length-take-le}
use Rattle.printing.proofs.Printed.{words_step}
use Rattle.printing.proofs.words.WordsIterator.next.Goals as goal

pub returns-clause-steps : goal.returns-clause-steps
returns-clause-steps g c =
    let words = c.args.self.now in
    let hs = take words.used (g.S.Store.halfwords words.store.now) in
    let n = length-take-le words.used (g.S.Store.halfwords words.store.now) words.stored in
    words_step hs words.place c.address.result c.word_at-word.result c.halves.result (omega arith) c.address.ensures c.word_at-word.ensures c.halves.ensures

pub returns-clause-goes : goal.returns-clause-goes
returns-clause-goes g c =
    let words = c.args.self.now in
    let hs = take words.used (g.S.Store.halfwords words.store.now) in
    let n = length-take-le words.used (g.S.Store.halfwords words.store.now) words.stored in
    let e = ap length (words_step hs words.place c.address.result c.word_at-word.result c.halves.result (omega arith) c.address.ensures c.word_at-word.ensures c.halves.ensures) in
    search rules
