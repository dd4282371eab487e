-- Where no counter runs there is nothing to tell; else the nearest is behind these ticks.
use Rattle.std.proofs.Common.{◌≡◌, ℕ, ◌+◌, ◌-◌, ◌<◌, sym, ap, arith}
use Rattle.model.specs.Layout.{view}
use Rattle.timed.specs.Counters.{nearest_counter}
use Rattle.timed.proofs.Placing.{place-back, place_none, free-before}
use Rattle.timed.proofs.Resting.{owed-idle}
use Rattle.timed.proofs.rest_counters.Goals as goal
use Rattle.timed.proofs.rest_counters.Goals.{Else-due-eq-NEVER}

module _ (c : Else-due-eq-NEVER) where
  left : nearest_counter (view c.args.image.now) ≡ c.args.due + 1
  left = place-back (nearest_counter (view c.args.image.now)) c.requires.due.0.at (omega (arith, c.if-due-eq-NEVER.false))

  within : c.args.ticks < c.args.due + 1
  within = free-before left (omega arith) c.requires.due.1

pub returns-then-due-eq-NEVER : goal.returns-then-due-eq-NEVER
returns-then-due-eq-NEVER c =
    let v = view c.args.image.now in
    let d = c.requires.due.0 in
    let none = place_none (nearest_counter v) d.at d.fits (omega (arith, c.if-due-eq-NEVER.true)) in record { image = record { whole = c.requires.whole; view = sym (owed-idle c.args.ticks v none) }; left = omega (arith, none) }

pub overflow_sub-result : goal.overflow_sub-result
overflow_sub-result c = omega (arith, within (goal.at.overflow_sub-result c).Else-due-eq-NEVER)

pub returns : goal.returns
returns c = record { image = c.settle.ensures; left = ap (λ (n : ℕ). n - c.args.ticks) (sym (left (goal.at.returns c).Else-due-eq-NEVER)) }
