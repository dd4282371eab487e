-- Where none counts there is nothing to spend; else its end is behind these ticks.
use Rattle.std.proofs.Common.{◌≡◌, ℕ, ◌+◌, ◌-◌, ◌<◌, sym, ap, arith}
use Rattle.model.specs.Layout.{view}
use Rattle.timed.specs.Counters.{running}
use Rattle.timed.proofs.Placing.{place-back, place_none, free-before}
use Rattle.timed.proofs.Using.{running-left, spend-idle}
use Rattle.timed.proofs.rest_quantum.Goals as goal
use Rattle.timed.proofs.rest_quantum.Goals.{Else-quantum-eq-NEVER}

module _ (c : Else-quantum-eq-NEVER) where
  left : running (view c.args.image.now) ≡ c.args.quantum + 1
  left = place-back (running (view c.args.image.now)) c.requires.running.0.at (omega (arith, c.if-quantum-eq-NEVER.false))

  within : c.args.left < c.args.quantum + 1
  within = free-before left (omega arith) c.requires.running.1

pub returns-then-quantum-eq-NEVER : goal.returns-then-quantum-eq-NEVER
returns-then-quantum-eq-NEVER c =
    let v = view c.args.image.now in
    let q = c.requires.running.0 in
    let none = place_none (running v) q.at (omega (arith, q.fits)) (omega (arith, c.if-quantum-eq-NEVER.true)) in record { image = record { whole = c.requires.whole; view = sym (spend-idle c.args.left v none) }; left = omega (arith, none) }

pub spend-requires : goal.spend-requires
spend-requires c =
    let counts = running-left (view c.args.image.now) (omega (arith, left (goal.at.spend-requires c).Else-quantum-eq-NEVER)) in record { whole = c.requires.whole; image_value = (counts.0, omega (arith, left (goal.at.spend-requires c).Else-quantum-eq-NEVER, within (goal.at.spend-requires c).Else-quantum-eq-NEVER, counts.1)) }

pub overflow_sub-result : goal.overflow_sub-result
overflow_sub-result c = omega (arith, within (goal.at.overflow_sub-result c).Else-quantum-eq-NEVER)

pub returns : goal.returns
returns c = record { image = c.spend.ensures; left = ap (λ (n : ℕ). n - c.args.left) (sym (left (goal.at.returns c).Else-quantum-eq-NEVER)) }
