-- The words of a list of halfwords.
use Rattle.std.specs.Prelude.{ℕ, ◌+◌, ◌*◌, ◌%◌, cond, List, [], ◌∷◌, ◌++◌, drop, ◌==◌, slice_index}
use Rattle.text.specs.declared.words.Word.{Word}
use Rattle.text.specs.declared.words.Word.TheVariants.{Short, Wide}
use Rattle.text.specs.Decimal.{digits}
use Rattle.text.specs.Words.{hex_of}
use Rattle.printing.specs.Printed.{comma, newline}

-- the word that a halfword begins, before others
abbrev pub word_from : ℕ → List ℕ → Word
word_from x [] = Short x
word_from x (y ∷ hs) = cond (x % 4 == 3) (Wide (y * 65536 + x)) (Short x)

-- the word at a place of a list of halfwords
abbrev pub word_at : List ℕ → ℕ → Word
word_at hs place = word_from (slice_index hs place) (drop (place + 1) hs)

-- the line of a word behind its byte address
abbrev pub row_of : ℕ → Word → List ℕ
row_of address w = digits address ++ comma ++ hex_of w ++ newline

-- the words of a list of halfwords, the first at a place, each with its byte address
abbrev pub words_from : ℕ → List ℕ → List (ℕ × Word)
words_from place [] = []
words_from place (x ∷ []) = (2 * place, Short x) ∷ []
words_from place (x ∷ (y ∷ hs)) = cond (x % 4 == 3) ((2 * place, Wide (y * 65536 + x)) ∷ words_from (place + 2) hs) ((2 * place, Short x) ∷ words_from (place + 1) (y ∷ hs))
