use Rattle.std.specs.Prelude.{List, ℕ, Ok, Err, Result}
use Rattle.std.specs.Borrow.{Bor}
use Rattle.text.specs.declared.lines.Unended.{Unended}
use Rattle.text.specs.Lines.{Line, ended, unended}

-- a line as it is given
abbrev pub given : Result (Bor (List ℕ)) Unended → Line
given (Ok t) = ended t.now
given (Err u) = unended u.0.now
