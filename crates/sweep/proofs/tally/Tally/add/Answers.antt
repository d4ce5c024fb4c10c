use Rattle.std.proofs.Common.{sym, ◌∙◌}
use Rattle.sweep.specs.Outcomes.{one_read, one_unread}
use Rattle.sweep.proofs.tally.Tally.add.Goals as goal

pub returns-in-Unread-clause-counted : goal.returns-in-Unread-clause-counted
returns-in-Unread-clause-counted c words n q h = one_unread (λ i e. c.in-Unread.ensures i (e ∙ q)) h

pub returns-in-Itself-clause-counted : goal.returns-in-Itself-clause-counted
returns-in-Itself-clause-counted c words n q h = let s = c.in-Itself.ensures in one_read s.0 (s.1 ∙ sym q) h
