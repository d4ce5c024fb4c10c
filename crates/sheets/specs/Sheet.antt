-- A sheet's answer, from its bytes to its text: bytes to lines, lines to calls, calls to the listing of their history, its items to words. Assumes nothing.
use Rattle.std.specs.Prelude.{ℕ, ◌+◌, ◌*◌, cond, List, [], ◌∷◌, ◌++◌, Ok, Err, codes, Result, nat_lt}
use Rattle.text.specs.Lines.{lines}
use Rattle.printing.specs.Printed.{newline, word_row, fault_text}
use Rattle.formats.specs.Layouts.{size}
use Rattle.operations.specs.Manual.{form_at}
use Rattle.instructions.specs.Words.{word_of}
use Rattle.items.specs.Items.{Item}
use Rattle.lives.specs.Listing.{Stage}
use Rattle.lines.specs.declared.faults.SheetFault.{SheetFault}
use Rattle.lines.specs.Numbers.{sheet_refusal}
use Rattle.sheets.specs.declared.faults.SizeFault.{SizeFault}
use Rattle.sheets.specs.declared.faults.SizeFault.TheVariants.{Input, Output}
use Rattle.sheets.specs.History.{history}

-- a line for each item: its byte address, and its word in four hexadecimal digits a halfword
abbrev pub rows : ℕ → List Item → List ℕ
rows place [] = []
rows place (x ∷ xs) = word_row place (4 * size (form_at x.0).kind) (word_of (form_at x.0) x.1) ++ rows (place + size (form_at x.0).kind) xs

-- the words of the last listing, or the first fault
abbrev pub text_of : Result Stage SheetFault → List ℕ
text_of (Ok s) = codes "at,word" ++ newline ++ rows 0 s.listing.code
text_of (Err e) = fault_text e.line (sheet_refusal e)

-- the text that answers a sheet; the store has 256 halfwords
abbrev pub answer : List ℕ → List ℕ
answer bytes = text_of (history 256 (lines bytes))

-- the call's answer, by the sizes of input and output: the length of the text, or a refusal
abbrev pub sized : ℕ → ℕ → ℕ → Result ℕ SizeFault
sized input output n = cond (nat_lt 4096 input) (Err (Input input)) (cond (nat_lt output 4096) (Err (Output output)) (Ok n))
