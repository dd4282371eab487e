-- What words do to the choice before it is made anew: nothing. Who is ready stays ready but for the one that waits, sleeps or stops.
use mathlib.Core.Path.{◌≡◌, refl, ◌∙◌, ap}
use mathlib.Core.Bool.{Bool, true, false, cond}
use mathlib.Core.List.{[], ◌∷◌, map}
use Prim.Native.Nat.{ℕ, ◌<◌}
use native.Mathlib.Decide.{ℕ_discrete}
use native.Mathlib.Omega.{arith}
use lib.Dec.{eqb}
use lib.ListN.{length, length-map}
use Rattle.sequences.specs.Lists.{alter, snoc, count, count_all, without}
use Rattle.sequences.proofs.Places.{alter-at, alter-keeps}
use Rattle.sequences.proofs.Counts.{count-one, count_all-kept}
use Rattle.sequences.proofs.Parts.{none-counted}
use Rattle.sequences.proofs.Members.{count_all-put}
use Rattle.model.specs.declared.tables.Thread.{Thread}
use Rattle.model.specs.State.{State, nobody, absent_thread}
use Rattle.model.specs.Parts.{thread, alter_thread, with_current, with_wait}
use Rattle.model.specs.Words.{leave, enter_ready, enter_by_priority, become_ready, wake, is_ready, is_waiting, list_of, re_enter, take_priority}
use Rattle.placed.proofs.Entering.{snoc_puts}
use Rattle.theorems.specs.Lawful.{Lawful, Keeps}

pub keeps-none : (s : State) → Keeps s s
keeps-none s = record { off = refl; chosen = refl; ready = λ x h. h }

pub keeps_both : {s t u : State} → Keeps s t → Keeps t u → Keeps s u
keeps_both a b = record { off = b.off ∙ a.off; chosen = b.chosen ∙ a.chosen; ready = λ x h. b.ready x (a.ready x h) }

pub leave-keeps : (i x : ℕ) (s : State) → (i ≡ x → ⊥) → 0 < count_all x s.ready → 0 < count_all x (leave i s).ready
unfolding leave
leave-keeps i x s n h = omega (arith, count_all-kept i x s.ready n)

pub become_ready-keeps : (i : ℕ) (s : State) → (thread i s).current < length s.ready → Keeps s (become_ready i s)
unfolding become_ready enter_ready leave
become_ready-keeps i s below = record { off = refl; chosen = refl; ready = λ x h. still x h }
  where
    many : (thread i s).current < length (map (without i) s.ready)
    many = rw (length-map s.ready (without i)) below

    still : (x : ℕ) → 0 < count_all x s.ready → 0 < count_all x (alter (thread i s).current (snoc i) (map (without i) s.ready))
    still x h =
        let e = count_all-put i (snoc i) (snoc_puts i) x (thread i s).current (map (without i) s.ready) many in
        elim (ℕ_discrete i x) [
          | yes same ↦ let one : count x (i ∷ []) ≡ 1 = rw same (count-one x) in omega arith
          | no other ↦ let kept = count_all-kept i x s.ready other in omega arith
        ]

module _ (i : ℕ) (s : State) (w : Lawful nobody s) where
  -- a change of the record that leaves the current priority alone, on the way to a ready list
  pub made_ready-keeps : (g : Thread → Thread) → ((t : Thread) → (g t).current ≡ t.current) → Keeps s (become_ready i (alter_thread i g s))
  made_ready-keeps g same =
      let still = alter-keeps (λ (t : Thread). t.current) g same i s.threads i absent_thread in
      let k = become_ready-keeps i (alter_thread i g s) (rw still (omega (arith, w.placed.priorities i, w.placed.ready))) in
      record { off = k.off; chosen = k.chosen; ready = k.ready }

  pub wake-keeps : (result : ℕ) → Keeps s (wake i result s)
  unfolding wake
  wake-keeps result = made_ready-keeps (with_wait 0 result 0 0) (λ t. refl)

-- the base may be another, the lists are not
pub take_priority-keeps : (i p : ℕ) (s : State) → i < length s.threads → p < length s.ready → Keeps s (take_priority i p s)
unfolding take_priority re_enter enter_by_priority leave
take_priority-keeps i p s there below = by_change (eqb (thread i s).current p)
  where
    t : State
    t = alter_thread i (with_current p) s

    now : (thread i t).current ≡ p
    now = ap (λ (t : Thread). t.current) (alter-at (with_current p) i s.threads absent_thread there)

    waits-keeps : is_ready i s ≡ false → (x : ℕ) → 0 < count_all x s.ready → 0 < count_all x (leave i t).ready
    waits-keeps e x h =
        elim (ℕ_discrete i x) [
          | yes same ↦ absurd (omega (arith, none-counted i s.ready e, rw (← same) at h))
          | no other ↦ leave-keeps i x s other h
        ]

    by_place : (a b : Bool) → is_ready i s ≡ a → Keeps s (cond a (become_ready i t) (cond b (enter_by_priority (list_of i s) i (leave i t)) t))
    by_place true b e = let k = become_ready-keeps i t (rw now below) in record { off = k.off; chosen = k.chosen; ready = k.ready }
    by_place false true e = record { off = refl; chosen = refl; ready = waits-keeps e }
    by_place false false e = record { off = refl; chosen = refl; ready = λ x h. h }

    by_change : (b : Bool) → Keeps s (cond b s (cond (is_ready i s) (become_ready i t) (cond (is_waiting i s) (enter_by_priority (list_of i s) i (leave i t)) t)))
    by_change true = keeps-none s
    by_change false = by_place (is_ready i s) (is_waiting i s) refl
