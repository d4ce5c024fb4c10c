-- What is said of an instruction that is built, or not. Assumes nothing.
use Rattle.std.proofs.Common.{◌≡◌, Some, None, Ok, Err, Option, Result, sym, ap, ◌∙◌}
use Rattle.formats.specs.Lawful.{outcome}
use Rattle.operations.specs.declared.operation.Operation.{Operation}
use Rattle.operations.specs.Manual.{form_at}
use Rattle.instructions.specs.declared.fields.Fields.{Fields}
use Rattle.instructions.specs.declared.fields.BuildFault.{BuildFault}
use Rattle.instructions.specs.declared.instruction.Instruction.{Instruction}
use Rattle.instructions.specs.Faults.{build_fault}
use Rattle.instructions.specs.Words.{shown, built}
use Rattle.scripts.specs.Lines.{asks, emits, no_instruction, emits_or, emits_built}

lawful_by : (x : Option BuildFault) (o p : Operation) (f g : Fields) → ◌≡◌ {A = Result (Operation × Fields) BuildFault} (Ok (p, g)) (outcome x (o, f)) → asks (emits p.place g) ≡ emits_or x o.place f
lawful_by None o p f g e = let w : ◌≡◌ {A = Operation × Fields} (p, g) (o, f) = cc in ap (λ x. asks (emits x.0.place x.1)) w
lawful_by (Some x) o p f g e = cc

unlawful_by : (x : Option BuildFault) (o : Operation) (f : Fields) (b : BuildFault) → ◌≡◌ {A = Result (Operation × Fields) BuildFault} (Err b) (outcome x (o, f)) → no_instruction b ≡ emits_or x o.place f
unlawful_by None o f b e = cc
unlawful_by (Some x) o f b e = cc

pub lawful_emits : (r : Result Instruction BuildFault) (o : Operation) (f : Fields) (i : Instruction) → r ≡ Ok i → shown r ≡ built o f → asks (emits i.op.place i.fields) ≡ emits_built o.place f
lawful_emits r o f i q e = lawful_by (build_fault (form_at o.place) f) o i.op f i.fields (sym (ap shown q) ∙ e)

pub unlawful_is_none : (r : Result Instruction BuildFault) (o : Operation) (f : Fields) (b : BuildFault) → r ≡ Err b → shown r ≡ built o f → no_instruction b ≡ emits_built o.place f
unlawful_is_none r o f b q e = unlawful_by (build_fault (form_at o.place) f) o f b (sym (ap shown q) ∙ e)
