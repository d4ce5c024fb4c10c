use Rattle.std.proofs.Common.{◌≡◌, ◌≤◌, [], ◌∷◌, List, length, Some, None, Option, MatchOption, ap, arith}
use Rattle.text.specs.Lines.{Line, lines, sheet}
use Rattle.text.specs.Given.{given}
use Rattle.sheets.proofs.MoreCalls.{sheet_bytes, fewer_bytes}
use Rattle.sheets.proofs.assemble.assemble.Goals as goal

-- the lines behind a first one have fewer bytes, if there is one
fewer : {A : Type 0} (v : A → Line) (r : Option A) (xs ys : List Line) → MatchOption r ((xs ≡ []) × (ys ≡ [])) (λ x. xs ≡ v x ∷ ys) → length (sheet ys) ≤ length (sheet xs)
fewer v None xs ys h = omega (arith, ap (λ ls. length (sheet ls)) h.0, ap (λ ls. length (sheet ls)) h.1)
fewer v (Some x) xs ys h = omega (arith, ap (λ ls. length (sheet ls)) h, fewer_bytes (v x) ys)

pub lines_history-requires : goal.lines_history-requires
lines_history-requires g c =
    let rest = fewer given c.next.result (lines c.of-lines.result.rest.now) (lines c.next.new.self.rest.now) c.next.ensures.steps in
    omega (arith, rest, ap (λ b. length (sheet (lines b))) c.of-lines.ensures, sheet_bytes c.args.input.now)
