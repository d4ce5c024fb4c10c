-- A script from its first line on, and the text that answers it.
use Rattle.std.specs.Prelude.{◌≡◌, ℕ, false, ◌*◌, List, [], ◌∷◌, ◌++◌, replicate, Some, None, Option, codes}
use Rattle.std.specs.Io.KnownBytes.{Appends, Keeps}
use Rattle.store.specs.Halves.{held}
use Rattle.text.specs.Lines.{Line, ended, unended, lines}
use Rattle.text.specs.declared.lines.Lines.{Lines}
use Rattle.scripts.specs.Size.{size_of}
use Rattle.scripts.specs.declared.faults.ScriptFault.{ScriptFault}
use Rattle.scripts.specs.declared.faults.ScriptFault.TheVariants.{TooLong, Io}
use Rattle.scripts.specs.Script.{says, newline}
use Rattle.scripts.specs.Answered.{Answered, roomy}

abbrev pub with_rest : Option ℕ → List Line → Option (ℕ × List Line)
with_rest None ls = None
with_rest (Some n) ls = Some (n, ls)

-- the size that the first line gives, if it is ended, and the lines after it
abbrev pub sized : List Line → Option (ℕ × List Line)
sized [] = None
sized (unended t ∷ ls) = None
sized (ended t ∷ ls) = with_rest (size_of t) ls

abbrev pub shown_head : Option (ℕ × Lines) → Option (ℕ × List Line)
shown_head None = None
shown_head (Some h) = Some (h.0, lines h.1.rest.now)

-- over a store that held `first`
abbrev pub OnStore : List Line → List ℕ → Option (List ℕ) → Option (List ℕ) → Type 0
OnStore ls first old new = (cells : List ℕ) × Answered ls first cells old new

-- over a store of n zeros
abbrev pub OnZeros : List Line → ℕ → Option (List ℕ) → Option (List ℕ) → Type 0
OnZeros ls n old new = OnStore ls (held 0 (replicate (2 * n) 0)) old new

-- a script with more in it than there is room for is refused, and nothing is written; no other is refused so
abbrev pub Refused : ScriptFault → Option (ℕ × List Line) → Option (List ℕ) → Option (List ℕ) → Type 0
Refused TooLong None old new = ⊥
Refused TooLong (Some h) old new = (roomy (says h.1) ≡ false) × Keeps old new
Refused (Io e) h old new = Unit {0}

-- a script's answers and words; `unknown` where its first line gives no size
abbrev pub WholeAnswered : Option (ℕ × List Line) → Option (List ℕ) → Option (List ℕ) → Type 0
WholeAnswered None old new = Appends old new (codes "unknown" ++ newline)
WholeAnswered (Some h) old new = OnZeros h.1 h.0 old new
