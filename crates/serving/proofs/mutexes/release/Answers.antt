-- Who runs is ready, so its fall moves it in the ready lists only, and those who wait for the mutex stand as before.
use mathlib.Core.Path.{◌≡◌, refl, ap}
use mathlib.Core.Bool.{true, false}
use mathlib.Core.List.{List}
use Prim.Native.Nat.{ℕ, ◌+◌, ◌-◌, ◌<◌}
use native.Mathlib.Omega.{arith}
use borrow.Author.Tests.{eq-eqb, ne_eqb, ltb-true, not-false}
use lib.Dec.{eqb, ltb}
use Rattle.sequences.proofs.Tests.{left}
use Rattle.sequences.proofs.Places.{alter_alike}
use Rattle.model.specs.declared.requests.Request.{Request}
use Rattle.model.specs.declared.tables.Mutex.{Mutex}
use Rattle.model.specs.State.{State, absent_mutex, mutex_list}
use Rattle.model.specs.Parts.{thread, mutex, list, with_mutexes, alter_mutex, with_owner}
use Rattle.model.specs.Words.{owns}
use Rattle.model.specs.Sound.{thread_in_range}
use Rattle.model.specs.Calls.{answers, release, nobody_runs}
use Rattle.model.specs.Effects.{fall, hand_over, release_effect}
use Rattle.theorems.specs.Allowed.{Allowed}
use Rattle.theorems.proofs.Allowing.{steady, running_below, mutex-named, not-due}
use Rattle.theorems.proofs.Fits.{range}
use Rattle.theorems.proofs.Priorities.{take_priority-ready}
use Rattle.theorems.proofs.Running.{running-ready, running-waits}
use Rattle.words.proofs.Does.{and_then, same_word}
use Rattle.words.proofs.Accepted.{unmoved_does}
use Rattle.serving.proofs.mutexes.release.Goals as goal

module _ {q : Request} {s : State} (a : Allowed release q s) where
  below : q.id < 4
  unfolding answers
  below = mutex-named a refl

  runs : nobody_runs s ≡ false
  unfolding answers
  runs = not-due a 2 refl

  running : {i : ℕ} → i ≡ s.chosen → i < 16
  running e = rw e (running_below a runs)

  deep : {n : ℕ} → n ≡ (mutex q.id s).depth → 0 < n
  unfolding answers
  deep e =
      let m = mutex q.id s in
      let own : owns q.id s.chosen s ≡ true = not-false _ (not-due a 3 refl) in
      rw e (ltb-true 0 m.depth (left (ltb 0 m.depth) (eqb m.owner s.chosen) own))

  base-below : {i : ℕ} → i ≡ s.chosen → (thread i s).base < 8
  unfolding thread_in_range
  base-below e = rw e (ltb-true (thread s.chosen s).base 8 (range ((steady a).lawful.threads s.chosen) 1))

  fall-list : (j : ℕ) → list j (fall s.chosen s) ≡ list j s
  unfolding fall
  fall-list j =
      ap (list j) (take_priority-ready s.chosen (thread s.chosen s).base s (running-ready s (steady a) runs) (running-waits s (steady a) runs))

  -- with what was read of the state
  module _ (n : ℕ) (has : n ≡ (mutex q.id s).depth) where
    last-level : {i : ℕ} → i ≡ s.chosen → n ≡ 1 → hand_over q.id (list (mutex_list q.id) (fall i s)) (fall i s) ≡ release_effect q s
    unfolding release_effect
    last-level is e =
        rw (is, ← has, eq-eqb n 1 e) (ap (λ (l : List ℕ). hand_over q.id l (fall s.chosen s)) (fall-list (10 + q.id)))

    one_less : {owner : ℕ} → owner ≡ (mutex q.id s).owner → (n ≡ 1 → ⊥) → alter_mutex q.id (with_owner owner (n - 1)) s ≡ release_effect q s
    unfolding release_effect
    one_less {owner} own e =
        rw (← has, ne_eqb n 1 e)
        (ap (λ (l : List Mutex). with_mutexes l s)
        (alter_alike (with_owner owner (n - 1)) (λ x. with_owner x.owner (x.depth - 1) x) absent_mutex s.mutexes q.id (rw (own, has))))

pub depth-depth-requires : goal.depth-depth-requires
depth-depth-requires c = below c.requires.allowed

pub fall-requires : goal.fall-requires
fall-requires c =
    let a = c.requires.allowed in record { given = record { whole = c.requires.whole; thread = running a c.chosen-i.ensures }; image_bound = base-below a c.chosen-i.ensures }

pub hand_over-requires : goal.hand_over-requires
hand_over-requires c = record { whole = c.fall.ensures.whole; o_bound = below c.requires.allowed }

pub owner-owner-requires : goal.owner-owner-requires
owner-owner-requires c = below c.requires.allowed

pub overflow_sub-depth : goal.overflow_sub-depth
overflow_sub-depth c = deep c.requires.allowed c.depth-depth.ensures

pub set_owner-requires : goal.set_owner-requires
set_owner-requires c =
    below c.requires.allowed

pub returns-then-depth-eq1 : goal.returns-then-depth-eq1
returns-then-depth-eq1 c =
    same_word (and_then c.fall.ensures c.hand_over.ensures) (release_effect c.args.q)
    (last-level c.requires.allowed _ c.depth-depth.ensures c.chosen-i.ensures (omega (arith, c.if-depth-eq1.true)))

pub returns-else-depth-eq1 : goal.returns-else-depth-eq1
returns-else-depth-eq1 c =
    same_word (unmoved_does c.requires.whole c.set_owner.ensures refl refl refl) (release_effect c.args.q)
    (one_less c.requires.allowed _ c.depth-depth.ensures c.owner-owner.ensures (λ e. omega (arith, e, c.if-depth-eq1.false)))
