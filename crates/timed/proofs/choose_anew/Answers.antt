-- Where somebody may have moved there is a choice; else it is as it was, and the quantum's end is as many ticks nearer.
use Rattle.std.proofs.Common.{ℕ, ◌-◌, ◌<◌, ◌≤◌, sym, ap, ◌∙◌, arith}
use Rattle.model.specs.State.{State}
use Rattle.model.specs.Layout.{view}
use Rattle.rules.specs.Counting.{never, place}
use Rattle.rules.proofs.Nearness.{running-place}
use Rattle.words.proofs.Unmoved.{chosen_does}
use Rattle.timed.specs.Ahead.{Unchanged}
use Rattle.timed.specs.Counters.{Running}
use Rattle.timed.proofs.choose_anew.Goals as goal
use Rattle.timed.proofs.choose_anew.Goals.{Else-moved}

none_runs : {p q : ℕ} {s : State} → Unchanged p q s → never ≤ q → Running s never
none_runs u h = record { fits = omega (arith, u.none h); at = ap place (sym (u.none h)) }

comes-nearer : {p q : ℕ} {s : State} → Unchanged p q s → q < never → Running s (q - p - 1)
comes-nearer {p} {q} {s} u h =
    let e = u.some h in
    record { fits = omega (arith, e); at = ap (λ (n : ℕ). n - 1) (sym e) ∙ running-place _ (λ z. omega (arith, e, z, u.before)) }

module _ (c : Else-moved) where
  as_before : Unchanged c.args.until c.args.quantum (view c.args.image.now)
  as_before = c.requires.unchanged c.if-moved.false

pub quantum_left-requires : goal.quantum_left-requires
quantum_left-requires c =
    (chosen_does c.requires.whole c.choose.ensures).whole

pub returns-then-moved : goal.returns-then-moved
returns-then-moved c =
    let left = c.quantum_left in record { image = chosen_does c.requires.whole c.choose.ensures; quantum = record { fits = omega (arith, left.ensures); at = c.place.ensures ∙ ap place left.ensures } }

pub returns : goal.returns
returns c =
    let u = as_before (goal.at.returns c).Else-moved in record { image = record { whole = c.requires.whole; view = sym u.chosen }; quantum = comes-nearer u (omega (arith, c.if-quantum-eq-NEVER.false)) }
