-- Whether there was room is told by a number.
use mathlib.Core.Path.{sym, ◌∙◌, ap}
use Rattle.rules.specs.Reports.{zero_if}
use Rattle.trial.proofs.ordizgum_linked_fresh.Goals as goal

pub returns-then-fresh : goal.returns-then-fresh
returns-then-fresh c = record { answer = ap zero_if (sym c.if-fresh.true ∙ c.fresh.ensures.answer); image = c.fresh.ensures.image }

pub returns-else-fresh : goal.returns-else-fresh
returns-else-fresh c = record { answer = ap zero_if (sym c.if-fresh.false ∙ c.fresh.ensures.answer); image = c.fresh.ensures.image }
