-- The first line of a script gives the size of its store: the word store and a number of halfwords.
use Rattle.std.specs.Prelude.{ℕ, cond, List, length, ℤ, pos, negsuc, Some, None, codes, Option, ◌==◌, nat_le}
use Rattle.std.specs.List.{slice_get}
use Rattle.std.specs.Str.{bytes_eq}
use Rattle.text.specs.Found.{found}
use Rattle.scripts.specs.Words.{words, number_at}

abbrev pub in_store : ℤ → Option ℕ
in_store (pos n) = cond (nat_le n 32768) (Some n) None
in_store (negsuc n) = None

abbrev pub size_of : List ℕ → Option ℕ
size_of line =
    cond (length (words line) == 2)
    (found (slice_get (words line) 0) (λ w. cond (bytes_eq w (codes "store")) (found (number_at line 1) in_store) None))
    None
