-- How the tests that soundness is made of are read: an implication, and where a thread stands, told by the list that counts it.
use mathlib.Core.Path.{◌≡◌, refl, sym, ◌∙◌, ap, subst}
use mathlib.Core.Bool.{Bool, true, false}
use Prim.Native.Nat.{ℕ, ◌+◌, ◌-◌, ◌<◌, ◌≤◌}
use native.Mathlib.Decide.{ℕ_discrete, dec_lt}
use native.Mathlib.Omega.{arith}
use lib.ListN.{take, drop, length-drop, length}
use lib.Seq.{take_all}
use Rattle.sequences.specs.Lists.{among_any, count}
use Rattle.sequences.proofs.Parts.{counted_below, part_has, part-place, place_below}
use Rattle.model.specs.declared.tables.Thread.{Thread}
use Rattle.model.specs.declared.tables.Semaphore.{Semaphore}
use Rattle.model.specs.declared.tables.Flags.{Flags}
use Rattle.model.specs.State.{State, semaphore_count, mutex_count, flags_count, list_count, sleep_list, stopped_list, semaphore_list, mutex_list, flags_list, absent_thread, absent_semaphore, absent_flags, thread_count}
use Rattle.model.specs.Parts.{list, thread, semaphore, flag_object}
use Rattle.model.specs.Ranges.{◌implies◌}
use Rattle.model.specs.Words.{is_waiting}
use Rattle.placed.specs.Placed.{Placed}

-- ---- an implication

pub implied : (a b : Bool) → a implies b ≡ true → a ≡ true → b ≡ true
implied true b h e = h
implied false b h e = let z : false ≡ true = e in cc

pub implies_from : (a b : Bool) → (a ≡ true → b ≡ true) → a implies b ≡ true
implies_from true b f = f refl
implies_from false b f = refl

-- ---- the lists by number

pub by_list : (P : ℕ → Type 0) → P sleep_list → P stopped_list → ((o : ℕ) → o < semaphore_count → P (semaphore_list o))
    → ((o : ℕ) → o < mutex_count → P (mutex_list o)) → ((o : ℕ) → o < flags_count → P (flags_list o)) → (j : ℕ) → j < list_count → P j
by_list P sleep stopped semaphores mutexes flags j below =
    elim (ℕ_discrete j 0) [
      | yes e ↦ rw e sleep
      | no n ↦
          elim (ℕ_discrete j 1) [
            | yes e ↦ rw e stopped
            | no m ↦
                elim (dec_lt j 10) [
                  | yes h ↦ back 2 (omega arith) (semaphores (j - 2) (omega arith))
                  | no a ↦
                      elim (dec_lt j 14) [
                        | yes h ↦ back 10 (omega arith) (mutexes (j - 10) (omega arith))
                        | no b ↦ back 14 (omega arith) (flags (j - 14) (omega arith))
                      ]
                ]
          ]
    ]
  where
    back : (first : ℕ) → first ≤ j → P (first + (j - first)) → P j
    back first h p = let e : first + (j - first) ≡ j = omega arith in subst P e p

-- ---- what is there is one of so many

pub there_below : {s : State} → Placed s → (i : ℕ) → (thread i s).created ≡ 1 → i < thread_count
there_below {s} w i there = omega (arith, place_below (λ (t : Thread). t.created) absent_thread s.threads refl i (omega arith), w.threads)

pub semaphore_below : (o : ℕ) (s : State) → length s.semaphores ≡ semaphore_count → (semaphore o s).created ≡ 1 → o < semaphore_count
semaphore_below o s many there = omega (arith, place_below (λ (x : Semaphore). x.created) absent_semaphore s.semaphores refl o (omega arith))

pub flags_below : (o : ℕ) (s : State) → length s.flags ≡ flags_count → (flag_object o s).created ≡ 1 → o < flags_count
flags_below o s many there = omega (arith, place_below (λ (x : Flags). x.created) absent_flags s.flags refl o (omega arith))

-- ---- who waits

module _ {s : State} (w : Placed s) (i : ℕ) where
  all-waits : among_any i (take 16 (drop 2 s.waits)) ≡ is_waiting i s
  all-waits = ap (among_any i) (take_all 16 (drop 2 s.waits) (omega (arith, length-drop 2 s.waits, w.waits)))

  pub waiting_there : (j : ℕ) → 2 ≤ j → 0 < count i (list j s) → is_waiting i s ≡ true
  waiting_there j least h = sym all-waits ∙ part_has i s.waits 2 16 j least (omega (arith, counted_below i s.waits j h, w.waits)) h

  pub waiting_place : is_waiting i s ≡ true → (j : ℕ) × ((2 ≤ j) × (0 < count i (list j s)))
  waiting_place e = let r = part-place i s.waits 2 16 (all-waits ∙ e) in (2 + r.0, (omega arith, r.1.1))
