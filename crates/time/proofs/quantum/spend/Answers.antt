-- Where nothing is left nothing is spent; else the running thread's record has what is left over.
use Rattle.std.proofs.Common.{ℕ, ◌-◌, sym, ap, ◌∙◌, arith}
use Rattle.model.specs.Before.{view}
use Rattle.table.proofs.Views.{does, same_word}
use Rattle.theorems.specs.Leap.{spend}
use Rattle.theorems.proofs.Spending.{spend-none, spend-some}
use Rattle.time.proofs.quantum.spend.Goals as goal

pub returns-then-left-eq0 : goal.returns-then-left-eq0
unfolding view
returns-then-left-eq0 c rows w =
    record { order = w.order; view = spend-none (view c.args.t rows) c.args.m (sym (c.quantum_left-left.ensures rows w.order) ∙ c.if-left-eq0.true) }

pub returns-else-left-eq0 : goal.returns-else-left-eq0
unfolding view
returns-else-left-eq0 c rows w =
    let left = c.quantum_left-left.ensures rows w.order in
    same_word (spend c.args.m) (does rows w.order c.with_left.ensures)
    (spend-some (view c.args.t rows) c.args.m (omega (arith, c.if-left-eq0.false, left)) (c.saturating_sub-rest.ensures ∙ ap (λ (n : ℕ). n - c.args.m) (c.from.ensures ∙ left)))
