-- What an effect leaves to the choice, and the thread that runs.
use mathlib.Core.Path.{◌≡◌, refl, sym, ◌∙◌, ap}
use mathlib.Core.Bool.{◌&&◌, true, false, false≢true}
use mathlib.Core.Logic.{inl, inr, ⊎_elim}
use Prim.Native.Nat.{ℕ, ◌<◌}
use native.Mathlib.Decide.{ℕ_discrete}
use native.Mathlib.Omega.{arith}
use borrow.Author.Tests.{eqb-true, eqb-false, leb-true, not-false, ltb-true}
use lib.Dec.{eqb, ltb}
use Rattle.sequences.specs.Lists.{count_all}
use Rattle.sequences.proofs.Tests.{right, left}
use Rattle.model.specs.State.{State, scheduling_on, nobody}
use Rattle.model.specs.Parts.{thread, alter_thread, with_result}
use Rattle.model.specs.Ranges.{is_bit}
use Rattle.model.specs.Calls.{nobody_runs, scheduling_off}
use Rattle.theorems.specs.Lawful.{Idle, Lawful, Keeps, Steady, Unchosen}
use Rattle.theorems.proofs.Fits.{fits-result}
use Rattle.theorems.proofs.Keeping.{not-absent, altered_lawful, standing-there, ready-idle}

-- ---- what is left to the choice

pub kept : {s after : State} → Steady s → Lawful nobody after → Keeps s after → Unchosen after
kept {s} {after} steady lawful keeps =
    record {
      lawful = lawful;
      stands = λ off.
          ⊎_elim (λ (e : s.chosen ≡ nobody). inl (keeps.chosen ∙ e))
          (λ (h : 0 < count_all s.chosen s.ready). inr (rw keeps.chosen (keeps.ready s.chosen h))) steady.stands;
    }

-- with scheduling on anything may become of the chosen thread
pub on-only : (s : State) {after : State} → Lawful nobody after → after.off ≡ s.off → scheduling_off s ≡ false → Unchosen after
on-only s {after} lawful same on =
    record { lawful = lawful; stands = λ off. absurd (false≢true (sym off ∙ ap (λ (n : ℕ). eqb n 0) same ∙ not-false (scheduling_on s) on)) }

-- ---- what a call names, and the running thread

-- of n things of a kind, the one named is there
pub named : (o n created : ℕ) → ltb o n && eqb created 1 ≡ true → (o < n) × (created ≡ 1)
named o n created h = (ltb-true o n (left (ltb o n) (eqb created 1) h), eqb-true created 1 (right (ltb o n) (eqb created 1) h))

module _ (s : State) (steady : Steady s) (runs : nobody_runs s ≡ false) where
  pub running-ready : 0 < count_all s.chosen s.ready
  running-ready =
      ⊎_elim (λ (e : s.chosen ≡ nobody). absurd (eqb-false s.chosen nobody runs e)) (λ (h : 0 < count_all s.chosen s.ready). h) steady.stands

  pub running-there : (thread s.chosen s).created ≡ 1
  running-there = standing-there steady.lawful s.chosen (omega (arith, running-ready))

  -- it waits for nothing
  pub running-waits : count_all s.chosen s.waits ≡ 0
  running-waits = omega (arith, running-ready, steady.lawful.placed.once s.chosen)

  pub running-idle : Idle (thread s.chosen s)
  running-idle = ready-idle steady.lawful s.chosen running-ready

-- who needn't wait has its result at once
pub done-lawful : (i : ℕ) (s : State) → Lawful nobody s → 0 < count_all i s.ready → Lawful nobody (alter_thread i (with_result 1) s)
done-lawful i s w on =
    altered_lawful nobody i (with_result 1) s w (fits-result (w.threads i) 1 refl (not-absent (standing-there w i (omega arith))))
    refl refl refl refl refl refl (λ h e. absurd (omega (arith, w.placed.once i)))

-- a mark that isn't 1 is 0
pub unset : (n : ℕ) → is_bit n ≡ true → eqb n 1 ≡ false → n ≡ 0
unset n bit other =
    elim (ℕ_discrete n 1) [
      | yes e ↦ absurd (eqb-false n 1 other e)
      | no e ↦ omega (arith, leb-true n 1 bit)
    ]
