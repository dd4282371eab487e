-- From step to step of the tick in which a timer or a limit falls due: what each step may assume holds after the one before, and where nobody has
-- moved the choice stays as it is.
use Rattle.std.proofs.Common.{◌≡◌, ℕ, ◌+◌, ◌<◌, List, get_or, sym, ◌∙◌, subst, arith}
use Rattle.model.specs.declared.tables.Timer.{Timer}
use Rattle.model.specs.State.{State, unused_timer}
use Rattle.theorems.specs.Leap.{spend, quantum_leap}
use Rattle.theorems.proofs.LeapKeeps.{quantum_leap-timers}
use Rattle.timed.specs.Ahead.{Falls, Unchanged}
use Rattle.timed.specs.Armed.{Aimed, Armed}
use Rattle.timed.specs.Counters.{running}
use Rattle.timed.specs.Running.{TimersTo}
use Rattle.timed.specs.Unmoved.{Unmoved}
use Rattle.timed.proofs.Owing.{unmoved_running, unmoved_choose}
use Rattle.timed.proofs.Placing.{place-back, place-next, place_none}
use Rattle.timed.proofs.Resting.{timers_alike}
use Rattle.timed.proofs.Using.{quantum_lasts, spend-running}

pub quantum-armed : (gap : ℕ) (s : State) → Armed s → Armed (quantum_leap gap s)
quantum-armed gap s = subst (λ (ts : List Timer). (o : ℕ) → Aimed (get_or ts o unused_timer)) (sym (quantum_leap-timers gap s))

pub quantum-timers_to : (end gap : ℕ) (s : State) → TimersTo end s → TimersTo end (quantum_leap gap s)
quantum-timers_to end gap s = timers_alike (quantum_leap-timers gap s)

-- ---- nobody moved

module _ (p q : ℕ) (s : State) (f : Falls p q s) (lasts : q ≡ p → ⊥) where
  later : p < q
  later = omega (arith, f.first, lasts)

  spends : spend (p + 1) s ≡ quantum_leap (p + 1) s
  spends = quantum_lasts (p + 1) s (omega arith) (λ e. lasts (place-next (running s) f.quantum.at e))

  pub unchanged : {x : State} → Unmoved (quantum_leap (p + 1) s) x → Unchanged p q x
  unfolding spend
  unchanged {x} moved =
      let u : Unmoved (spend (p + 1) s) x = subst (λ (y : State). Unmoved y x) (sym spends) moved in
      let left = unmoved_running (spend (p + 1) s) x u ∙ spend-running (p + 1) s in
      record {
        chosen = unmoved_choose (spend (p + 1) s) x u f.chosen;
        before = later;
        some = λ h. omega (arith, left, place-back (running s) f.quantum.at h);
        none = λ h. omega (arith, left, place_none (running s) f.quantum.at (omega (arith, f.quantum.fits)) h);
      }
