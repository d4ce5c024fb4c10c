-- A script and the text that answers it.
use Rattle.std.specs.Prelude.{◌≡◌, ℕ, List, ◌++◌, map, take, length, Bool, false, ◌&&◌, Option, nat_le}
use Rattle.std.specs.Io.KnownBytes.{Appends, Keeps}
use Rattle.text.specs.Lines.{Line}
use Rattle.records.specs.declared.book.Book.{Book}
use Rattle.lives.specs.declared.types.Entry.{Entry}
use Rattle.scripts.specs.declared.faults.ScriptFault.{ScriptFault}
use Rattle.scripts.specs.declared.faults.ScriptFault.TheVariants.{TooLong, Io}
use Rattle.lives.specs.Life.{Lived, call_of}
use Rattle.scripts.specs.Lines.{Saying}
use Rattle.scripts.specs.Script.{says, all_edits, calls, shown_call, answer_of, answers_text, words_text}

-- The script's calls make a life from a store that held `first`, with the book and the halfwords left at its end; its answers in order, and the halfwords then used, are the text that is written.
pub record Answered (ls : List Line) (first cells : List ℕ) (old new : Option (List ℕ)) : Type 0 where
  pub entries : List Entry
  pub book : Book
  pub used : ℕ
  pub asked : map shown_call (map call_of entries) ≡ calls (says ls)
  pub lived : Lived first entries book cells used
  pub text : Appends old new (answers_text (says ls) (map answer_of entries) ++ words_text (take used cells))

-- there is room for 8192 slots and values, and for 4096 calls
abbrev pub roomy : List Saying → Bool
roomy ss = nat_le (length (all_edits ss)) 8192 && nat_le (length (calls ss)) 4096

-- only a script that there is no room for is refused so, and it leaves the store and what is written as they were
abbrev pub Untouched : ScriptFault → List Saying → List ℕ → List ℕ → Option (List ℕ) → Option (List ℕ) → Type 0
Untouched TooLong ss first cells old new = (roomy ss ≡ false) × (cells ≡ first) × Keeps old new
Untouched (Io e) ss first cells old new = Unit {0}
