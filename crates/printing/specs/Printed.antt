-- The text of a program's words, and of a fault. Bytes are ASCII.
use Rattle.std.specs.Prelude.{ℕ, ◌+◌, ◌*◌, ◌%◌, cond, List, [], ◌∷◌, ◌++◌, codes, ◌==◌}
use Rattle.text.specs.Decimal.{digits}
use Rattle.text.specs.Written.{hex}

abbrev pub comma : List ℕ
comma = 44 ∷ []

abbrev pub newline : List ℕ
newline = 10 ∷ []

-- the line of a word: its byte address, and the word in so many hexadecimal digits
abbrev pub line_of : ℕ → ℕ → ℕ → List ℕ
line_of address count word = digits address ++ comma ++ hex count word ++ newline

-- the line of the word at a place, which counts halfwords
abbrev pub word_row : ℕ → ℕ → ℕ → List ℕ
word_row place count word = line_of (2 * place) count word

-- the lines of the words that stand in a list of halfwords, the first at a place: a halfword whose low two bits are both 1 begins a word of two, low half first; any other is a word of its own, and so is a last one that has no second half
abbrev pub printed : ℕ → List ℕ → List ℕ
printed place [] = []
printed place (x ∷ []) = word_row place 4 x
printed place (x ∷ (y ∷ hs)) = cond (x % 4 == 3) (word_row place 8 (y * 65536 + x) ++ printed (place + 2) hs) (word_row place 4 x ++ printed (place + 1) (y ∷ hs))

-- the names line, and a line for each word
abbrev pub words_text : List ℕ → List ℕ
words_text hs = codes "at,word" ++ newline ++ printed 0 hs

-- the names line, and the line of a fault: where it is, and its number
abbrev pub fault_text : ℕ → ℕ → List ℕ
fault_text line number = codes "line,fault" ++ newline ++ digits line ++ comma ++ digits number ++ newline
