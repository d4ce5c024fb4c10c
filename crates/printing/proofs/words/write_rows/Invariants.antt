use Rattle.std.proofs.Common.{◌≡◌, ◌++◌, take, drop}
use Rattle.printing.specs.Printed.{printed}
use Rattle.printing.specs.Words.{words_from}
use Rattle.printing.proofs.Printed.{rows}
use Rattle.printing.proofs.words.write_rows.Given as goal

-- the text so far and the lines of the words that are left are the whole text
abbrev pub invariant-loop-address : goal.invariant-loop-address
invariant-loop-address g l =
    let words = l.address-iterator in
    let all = l.fn.words in
    l.text ++ rows (words_from words.place (drop words.place (take words.used (g.S.Store.halfwords words.store.now))))
    ≡ l.fn.text ++ printed all.place (drop all.place (take all.used (g.S.Store.halfwords all.store.now)))
