-- What a line of a script says: a call of a program's life, an instruction that is none, or nothing known.
use Rattle.std.specs.Prelude.{ℕ, cond, List, length, ℤ, Some, None, Option, ◌==◌}
use Rattle.std.specs.List.{slice_get}
use Rattle.text.specs.Found.{found}
use Rattle.operations.specs.Manual.{operations}
use Rattle.operations.specs.Names.{named}
use Rattle.operations.specs.Manual.{form_at}
use Rattle.instructions.specs.declared.fields.Fields.{Fields}
use Rattle.instructions.specs.declared.fields.BuildFault.{BuildFault}
use Rattle.instructions.specs.Faults.{build_fault}
use Rattle.lives.specs.declared.types.Deed.{Deed}
use Rattle.lives.specs.declared.types.Deed.TheVariants.{Emit, Constant, Jump, Bind}
use Rattle.scripts.specs.declared.verb.Verb.{Verb}
use Rattle.scripts.specs.declared.verb.Verb.TheVariants as verb
use Rattle.scripts.specs.declared.line.Asked.{Asked}
use Rattle.scripts.specs.declared.line.Asked.TheVariants as asked
use Rattle.scripts.specs.declared.line.Said.{Said}
use Rattle.scripts.specs.declared.line.Said.TheVariants as said
use Rattle.scripts.specs.Words.{words, number_at}
use Rattle.scripts.specs.Verbs.{verb_of}
use Rattle.scripts.specs.Edits.{edits_of}
use Rattle.changing.specs.declared.edits.Edit.{Edit}

-- a call, operations by their places in the table
pub data Asking : Type 0 where
  emits : ℕ → Fields → Asking
  loads : ℤ → ℤ → Asking
  jumps : ℕ → ℤ → ℤ → ℤ → ℤ → Asking
  binds : ℤ → Asking
  tries : Asking
  keeps : Asking
  gives_up : Asking
  seals : Asking
  changes : List Edit → Asking
  tells : ℤ → Asking

-- what a line says: a call, an instruction to emit that is none, or nothing known
pub data Saying : Type 0 where
  asks : Asking → Saying
  no_instruction : BuildFault → Saying
  unknown : Saying

-- the place in the table of the operation that a word names
abbrev pub operation_at : List ℕ → ℕ → Option ℕ
operation_at line k = found (slice_get (words line) k) (named operations)

-- ---- after each first word, so many words in all

abbrev pub with_words : ℕ → List ℕ → Option Saying → Option Saying
with_words n line s = cond (length (words line) == n) s None

-- a lawful instruction is emitted, another is none
abbrev pub emits_or : Option BuildFault → ℕ → Fields → Saying
emits_or None k f = asks (emits k f)
emits_or (Some e) k f = no_instruction e

abbrev pub emits_built : ℕ → Fields → Saying
emits_built k f = emits_or (build_fault (form_at k) f) k f

abbrev pub emit_said : List ℕ → Option Saying
emit_said line =
    with_words 7 line
    (found (operation_at line 1) (λ o.
    found (number_at line 2) (λ d.
    found (number_at line 3) (λ a.
    found (number_at line 4) (λ b.
    found (number_at line 5) (λ n.
    found (number_at line 6) (λ m.
    Some (emits_built o (record { d = d; a = a; b = b; n = n; m = m })))))))))

abbrev pub constant_said : List ℕ → Option Saying
constant_said line = with_words 3 line (found (number_at line 1) (λ d. found (number_at line 2) (λ n. Some (asks (loads d n)))))

abbrev pub jump_said : List ℕ → Option Saying
jump_said line =
    with_words 6 line
    (found (operation_at line 1) (λ o.
    found (number_at line 2) (λ d.
    found (number_at line 3) (λ a.
    found (number_at line 4) (λ b.
    found (number_at line 5) (λ l.
    Some (asks (jumps o d a b l))))))))

-- the first word and one number
abbrev pub number_said : List ℕ → (ℤ → Asking) → Option Saying
number_said line s = with_words 2 line (found (number_at line 1) (λ n. Some (asks (s n))))

-- the first word alone
abbrev pub alone : List ℕ → Asking → Option Saying
alone line s = with_words 1 line (Some (asks s))

abbrev pub verb_said : List ℕ → Verb → Option Saying
verb_said line verb.Emit = emit_said line
verb_said line verb.Constant = constant_said line
verb_said line verb.Jump = jump_said line
verb_said line verb.Bind = number_said line binds
verb_said line verb.Try = alone line tries
verb_said line verb.Keep = alone line keeps
verb_said line verb.GiveUp = alone line gives_up
verb_said line verb.Seal = alone line seals
verb_said line verb.Change = found (edits_of line) (λ es. Some (asks (changes es)))
verb_said line verb.Value = number_said line tells

abbrev pub or_unknown : Option Saying → Saying
or_unknown None = unknown
or_unknown (Some s) = s

abbrev pub said_of : List ℕ → Saying
said_of line = or_unknown (found (found (slice_get (words line) 0) verb_of) (verb_said line))

-- ---- a line as the code has it

abbrev pub shown_deed : Deed → Asking
shown_deed (Emit i) = emits i.op.place i.fields
shown_deed (Constant l) = loads l.d l.value
shown_deed (Jump t) = jumps t.op.place t.d t.a t.b t.label
shown_deed (Bind l) = binds l

abbrev pub shown_asked : Asked → Asking
shown_asked (asked.Do d) = shown_deed d
shown_asked asked.Try = tries
shown_asked asked.Keep = keeps
shown_asked asked.GiveUp = gives_up
shown_asked asked.Seal = seals
shown_asked (asked.Change es) = changes es
shown_asked (asked.Value k) = tells k

abbrev pub shown : Said → Saying
shown (said.Call c) = asks (shown_asked c)
shown (said.NoInstruction e) = no_instruction e
shown said.Unknown = unknown

abbrev pub shown_if : Option Said → Option Saying
shown_if None = None
shown_if (Some s) = Some (shown s)
