use Rattle.std.proofs.Common.{◌+◌, ◌/◌, ◌≤◌, length, ap, ◌∙◌, arith}
use Rattle.text.proofs.Numerals.{digits_one, digits_more, length-digits_le}
use Rattle.text.proofs.writing.+decimal.Goals as goal
use Rattle.text.proofs.writing.+decimal.Goals.{then-n-lt10, else-n-lt10}

pub write_bytes-requires : goal.write_bytes-requires
write_bytes-requires t c =
    let short : length c.if-n-lt10.text + 1 ≤ 10 = elim c.if-n-lt10.branch [
      | then-n-lt10 w ↦ omega (arith, ap length (w.text-is ∙ w.new-text.ensures))
      | else-n-lt10 w ↦ omega (arith, ap length (w.text-is ∙ w.decimal-text.ensures), length-digits_le 9 (c.args.n / 10) (omega arith) (omega arith))
    ]
    in
    (omega arith, short)

pub returns : goal.returns
returns t c =
    elim c.if-n-lt10.branch [
      | then-n-lt10 w ↦ let e = digits_one c.args.n w.if-n-lt10.true in grind arith
      | else-n-lt10 w ↦ let e = digits_more c.args.n w.if-n-lt10.false in grind arith
    ]
