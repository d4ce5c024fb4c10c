use Rattle.std.proofs.Common.{ap, ap₂}
use Rattle.store.specs.Halves.{held}
use Rattle.text.specs.Lines.{lines}
use Rattle.scripts.proofs.Zeros.{bytes_run, run_refused}
use Rattle.scripts.proofs.whole.on_bytes.Goals as goal

pub returns-clause-answered : goal.returns-clause-answered
returns-clause-answered g c = bytes_run _ c.run.result _ _ _ _ _ c.args.memory.now c.run.ensures.answered (ap₂ held c.new-store.ensures.start (ap (λ m. m.now) c.new-store.ensures.memory))

pub returns-clause-refused : goal.returns-clause-refused
returns-clause-refused g c = run_refused _ c.run.result (lines c.args.lines.rest.now) 0 _ _ _ _ c.run.ensures.answered
