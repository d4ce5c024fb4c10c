-- The first word of a line says which call it is.
use Rattle.std.specs.Prelude.{ℕ, List, [], ◌∷◌, Option, codes}
use Rattle.std.specs.List.{find}
use Rattle.std.specs.Str.{bytes_eq}
use Rattle.scripts.specs.declared.verb.Verb.{Verb}
use Rattle.scripts.specs.declared.verb.Verb.TheVariants.{Emit, Constant, Jump, Bind, Try, Keep, GiveUp, Seal, Change, Value}

abbrev pub name : Verb → List ℕ
name Emit = codes "emit"
name Constant = codes "constant"
name Jump = codes "jump"
name Bind = codes "bind"
name Try = codes "try"
name Keep = codes "keep"
name GiveUp = codes "giveup"
name Seal = codes "seal"
name Change = codes "change"
name Value = codes "value"

abbrev pub verbs : List Verb
verbs = Emit ∷ Constant ∷ Jump ∷ Bind ∷ Try ∷ Keep ∷ GiveUp ∷ Seal ∷ Change ∷ Value ∷ []

abbrev pub verb_of : List ℕ → Option Verb
verb_of word = find (λ v. bytes_eq (name v) word) verbs
