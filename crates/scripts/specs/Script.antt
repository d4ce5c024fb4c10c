-- A script: a call a line. Which calls it lists, and which text answers it.
use Rattle.std.specs.Prelude.{ℕ, List, [], ◌∷◌, ◌++◌, map, drop, codes}
use Rattle.std.specs.Fmt.{decimal}
use Rattle.text.specs.Lines.{Line, ended, unended}
use Rattle.text.specs.Written.{hex}
use Rattle.instructions.specs.Numbers as build
use Rattle.changing.specs.declared.edits.Edit.{Edit}
use Rattle.lives.specs.declared.types.Call.{Call}
use Rattle.lives.specs.declared.types.Call.TheVariants.{Do, Try, Keep, GiveUp, Seal, Change, Value}
use Rattle.lives.specs.declared.types.Answer.{Answer}
use Rattle.lives.specs.declared.types.Entry.{Entry}
use Rattle.scripts.specs.Lines.{Asking, emits, loads, jumps, binds, tries, keeps, gives_up, seals, changes, tells, Saying, asks, no_instruction, unknown, said_of, shown_deed}
use Rattle.scripts.specs.Told.{answer_text}

-- a line counts with or without a newline at its end
abbrev pub text_of : Line → List ℕ
text_of (ended t) = t
text_of (unended t) = t

abbrev pub says : List Line → List Saying
says ls = map (λ l. said_of (text_of l)) ls

-- ---- its calls

-- a call as a line says it
abbrev pub shown_call : Call → Asking
shown_call (Do d) = shown_deed d
shown_call Try = tries
shown_call Keep = keeps
shown_call GiveUp = gives_up
shown_call Seal = seals
shown_call (Change es) = changes es.now
shown_call (Value k) = tells k

-- a line that says no call lists none
abbrev pub onto : Saying → List Asking → List Asking
onto (asks c) cs = c ∷ cs
onto (no_instruction e) cs = cs
onto unknown cs = cs

abbrev pub calls : List Saying → List Asking
calls [] = []
calls (s ∷ ss) = onto s (calls ss)

-- the slots and values that a call names
abbrev pub edits_asked : Asking → List Edit
edits_asked (changes es) = es
edits_asked (emits k f) = []
edits_asked (loads d n) = []
edits_asked (jumps k d a b l) = []
edits_asked (binds l) = []
edits_asked tries = []
edits_asked keeps = []
edits_asked gives_up = []
edits_asked seals = []
edits_asked (tells k) = []

abbrev pub edits_said : Saying → List Edit
edits_said (asks c) = edits_asked c
edits_said (no_instruction e) = []
edits_said unknown = []

abbrev pub all_edits : List Saying → List Edit
all_edits [] = []
all_edits (s ∷ ss) = edits_said s ++ all_edits ss

-- ---- the text that answers it

abbrev pub newline : List ℕ
newline = 10 ∷ []

-- the first of the answers that are left
abbrev pub first_text : List Answer → List ℕ
first_text [] = []
first_text (r ∷ rs) = answer_text r ++ newline

-- the line that answers what a line says, by the answers that are left
abbrev pub line_text : Saying → List Answer → List ℕ
line_text (asks c) rs = first_text rs
line_text (no_instruction e) rs = codes "refused " ++ (decimal (build.refusal e) ++ newline)
line_text unknown rs = codes "unknown" ++ newline

-- the answers left after it
abbrev pub left : Saying → List Answer → List Answer
left (asks c) rs = drop 1 rs
left (no_instruction e) rs = rs
left unknown rs = rs

-- the calls are answered in order, by the answers given
abbrev pub answers_text : List Saying → List Answer → List ℕ
answers_text [] rs = []
answers_text (s ∷ ss) rs = line_text s rs ++ answers_text ss (left s rs)

-- the used halfwords, in four digits each
abbrev pub halves_text : List ℕ → List ℕ
halves_text [] = []
halves_text (h ∷ hs) = 32 ∷ (hex 4 h ++ halves_text hs)

abbrev pub words_text : List ℕ → List ℕ
words_text hs = codes "words" ++ (halves_text hs ++ newline)

abbrev pub answer_of : Entry → Answer
answer_of e = e.answer
