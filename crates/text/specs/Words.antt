-- A word as one halfword or two.
use Rattle.std.specs.Prelude.{ℕ, List}
use Rattle.text.specs.declared.words.Word.{Word}
use Rattle.text.specs.declared.words.Word.TheVariants.{Short, Wide}
use Rattle.text.specs.Written.{hex}

-- how many halfwords a word has
abbrev pub halves_of : Word → ℕ
halves_of (Short x) = 1
halves_of (Wide x) = 2

-- a word in hexadecimal, four digits a halfword
abbrev pub hex_of : Word → List ℕ
hex_of (Short x) = hex 4 x
hex_of (Wide x) = hex 8 x
