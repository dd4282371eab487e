-- The record of an object or a timer changed, or one of the table's numbers: threads and lists are as they were, and what is asked of
-- them stays, but where it names what changed.
use mathlib.Core.Path.{◌≡◌, refl, sym, ◌∙◌}
use mathlib.Core.Bool.{Bool, true, false}
use mathlib.Core.Logic.{◌⊎◌, inl, inr}
use mathlib.Core.List.{List}
use Prim.Native.Nat.{ℕ, ◌+◌, ◌<◌}
use native.Mathlib.Decide.{ℕ_discrete}
use native.Mathlib.Omega.{arith}
use borrow.Author.Tests.{eq-eqb, eqb-true, lt-ltb, ltb-true}
use lib.Dec.{eqb, ltb}
use lib.ListN.{get_or}
use Rattle.sequences.specs.Lists.{alter, count, some_below}
use Rattle.sequences.proofs.Places.{length-alter, alter-at, alter_other, alter-holds}
use Rattle.sequences.proofs.Tests.{left, right, both, some_below_false, some_below-none}
use Rattle.model.specs.declared.tables.Semaphore.{Semaphore}
use Rattle.model.specs.declared.tables.Mutex.{Mutex}
use Rattle.model.specs.declared.tables.Flags.{Flags}
use Rattle.model.specs.declared.tables.Timer.{Timer}
use Rattle.model.specs.State.{State, absent_semaphore, absent_mutex, absent_flags, unused_timer, semaphore_count, mutex_count, flags_count}
use Rattle.model.specs.Parts.{thread, semaphore, mutex, flag_object, timer, list, with_clock, with_off, with_chosen, with_threads, with_ready, with_waits}
use Rattle.model.specs.Parts.{alter_semaphore, alter_mutex, alter_flags, alter_timer}
use Rattle.model.specs.Ranges.{is_bit, fits_32}
use Rattle.model.specs.Words.{owns, owns_any, holds}
use Rattle.theorems.specs.Lawful.{SemaphoreFits, MutexFits, FlagsFits, TimerFits, Objects, Pending, Claiming, Awaiting, Each, Lawful}

module _ (k : ℕ) (s : State) (w : Lawful k s) where
  -- ---- all but threads and lists

  -- the numbers, objects and timers of another table beside these threads and lists
  abbrev beside : State → State
  beside t = with_threads s.threads (with_ready s.ready (with_waits s.waits t))

  abbrev owns_none : ℕ → State → Type 0
  owns_none i t = some_below mutex_count (λ o. owns o i t) ≡ false

  currents-kept : (i : ℕ) → owns_none i s → (thread i s).current ≡ (thread i s).base
  unfolding owns_any
  currents-kept i = (w.currents i).owners

  beside_lawful : (t : State) → fits_32 t.clock ≡ true → is_bit t.off ≡ true
      → Objects t.semaphores t.mutexes t.flags t.timers
      → ((i : ℕ) → owns_none i t → (thread i s).current ≡ (thread i s).base)
      → ((o : ℕ) → 0 < (mutex o t).depth → (thread (mutex o t).owner s).created ≡ 1)
      → Each s.waits 2 semaphore_count (λ o i. Pending (thread i s) (semaphore o t))
      → Each s.waits 10 mutex_count (λ o i. Claiming i (thread i s) (mutex o t))
      → Each s.waits 14 flags_count (λ o i. Awaiting (thread i s) (flag_object o t))
      → Lawful k (beside t)
  unfolding owns_any
  beside_lawful t clock off objects currents owners pending claiming awaiting =
      record {
        clock = clock;
        off = off;
        objects = objects;
        threads = w.threads;
        currents = λ i. record { least = (w.currents i).least; owners = currents i };
        owners = owners;
        placed = record {
          threads = w.placed.threads;
          ready = w.placed.ready;
          waits = w.placed.waits;
          once = w.placed.once;
          known = w.placed.known;
          level = w.placed.level;
          priorities = w.placed.priorities;
        };
        once = w.once;
        apart = w.apart;
        falling = w.falling;
        readies = w.readies;
        sleepers = w.sleepers;
        stopped = w.stopped;
        pending = pending;
        claiming = claiming;
        awaiting = awaiting;
      }

  -- ---- the numbers

  pub clock-lawful : (n : ℕ) → fits_32 n ≡ true → Lawful k (with_clock n s)
  clock-lawful n h = beside_lawful (with_clock n s) h w.off w.objects currents-kept w.owners w.pending w.claiming w.awaiting

  pub off-lawful : (n : ℕ) → is_bit n ≡ true → Lawful k (with_off n s)
  off-lawful n h = beside_lawful (with_off n s) w.clock h w.objects currents-kept w.owners w.pending w.claiming w.awaiting

  pub chosen-lawful : (n : ℕ) → Lawful k (with_chosen n s)
  chosen-lawful n =
      beside_lawful (with_chosen n s) w.clock w.off w.objects currents-kept w.owners w.pending w.claiming w.awaiting

  -- ---- objects and timers

  -- what lists ask of their threads and their objects, one of which changed
  each-kept : {A : Type 0} (g : A → A) (o : ℕ) (l : List A) (d : A) (first many : ℕ) (P : ℕ → A → Type 0)
      → Each s.waits first many (λ x i. P i (get_or l x d))
      → (o < many → (i : ℕ) → 0 < count i (list (first + o) s) → P i (get_or l o d) → P i (g (get_or l o d)))
      → Each s.waits first many (λ x i. P i (get_or (alter o g l) x d))
  each-kept g o l d first many P all own x i below on =
      alter-holds (λ x a. x < many → (i : ℕ) → 0 < count i (list (first + x) s) → P i a) g o l d (λ x h i. all x i h)
      (λ h i on. own h i on (all o i h on)) x below i on

  pub semaphore-lawful : (o : ℕ) (g : Semaphore → Semaphore) → o < 8 → SemaphoreFits (g (semaphore o s))
      → ((semaphore o s).created ≡ 1 → (g (semaphore o s)).created ≡ 1)
      → ((i : ℕ) → 0 < count i (list (2 + o) s) → (g (semaphore o s)).count ≡ 0)
      → Lawful k (alter_semaphore o g s)
  semaphore-lawful o g below fits there empty =
      beside_lawful (alter_semaphore o g s) w.clock w.off objects currents-kept w.owners pending w.claiming w.awaiting
    where
      objects : Objects (alter o g s.semaphores) s.mutexes s.flags s.timers
      objects =
          record {
            many_semaphores = length-alter o g s.semaphores ∙ w.objects.many_semaphores;
            many_mutexes = w.objects.many_mutexes;
            many_flags = w.objects.many_flags;
            many_timers = w.objects.many_timers;
            semaphores = alter-holds (λ x a. SemaphoreFits a) g o s.semaphores absent_semaphore w.objects.semaphores fits;
            mutexes = w.objects.mutexes;
            flags = w.objects.flags;
            timers = w.objects.timers;
            posting = λ x h.
                alter-holds (λ y a. (semaphore y s).created ≡ 1 → a.created ≡ 1) g o s.semaphores absent_semaphore (λ y there. there) there
                (timer x s).object (w.objects.posting x h);
            setting = w.objects.setting;
          }

      pending : Each s.waits 2 8 (λ x i. Pending (thread i s) (semaphore x (alter_semaphore o g s)))
      pending =
          each-kept g o s.semaphores absent_semaphore 2 8 (λ i a. Pending (thread i s) a) w.pending
          (λ h i on p. record { result = p.result; mask = p.mask; mode = p.mode; there = there p.there; empty = empty i on })

  -- who owned it until now still does, or has its base priority
  pub mutex-lawful : (o : ℕ) (g : Mutex → Mutex) → o < 4 → MutexFits (g (mutex o s))
      → ((mutex o s).created ≡ 1 → (g (mutex o s)).created ≡ 1)
      → (0 < (g (mutex o s)).depth → (thread (g (mutex o s)).owner s).created ≡ 1)
      → ((i : ℕ) → 0 < count i (list (10 + o) s) → (0 < (g (mutex o s)).depth) × ((g (mutex o s)).owner ≡ i → ⊥))
      → (0 < (mutex o s).depth
      → ((0 < (g (mutex o s)).depth) × ((g (mutex o s)).owner ≡ (mutex o s).owner)) ⊎ ((thread (mutex o s).owner s).current ≡ (thread (mutex o s).owner s).base))
      → Lawful k (alter_mutex o g s)
  mutex-lawful o g below fits there owner others currents =
      beside_lawful (alter_mutex o g s) w.clock w.off objects (λ i none. by_test i none (owns o i s) refl) owners
      w.pending claiming w.awaiting
    where
      objects : Objects s.semaphores (alter o g s.mutexes) s.flags s.timers
      objects =
          record {
            many_semaphores = w.objects.many_semaphores;
            many_mutexes = length-alter o g s.mutexes ∙ w.objects.many_mutexes;
            many_flags = w.objects.many_flags;
            many_timers = w.objects.many_timers;
            semaphores = w.objects.semaphores;
            mutexes = alter-holds (λ x a. MutexFits a) g o s.mutexes absent_mutex w.objects.mutexes fits;
            flags = w.objects.flags;
            timers = w.objects.timers;
            posting = w.objects.posting;
            setting = w.objects.setting;
          }

      owners : (x : ℕ) → 0 < (mutex x (alter_mutex o g s)).depth → (thread (mutex x (alter_mutex o g s)).owner s).created ≡ 1
      owners = alter-holds (λ x a. 0 < a.depth → (thread a.owner s).created ≡ 1) g o s.mutexes absent_mutex w.owners owner

      none_after : (i : ℕ) → owns_none i (alter_mutex o g s) → (x : ℕ) → x < 4 → owns x i (alter_mutex o g s) ≡ false
      none_after i none x h = some_below_false (λ x. owns x i (alter_mutex o g s)) 4 x h none

      -- whoever owned this one and owns none now has its base priority
      parted : (i : ℕ) → owns_none i (alter_mutex o g s) → (mutex o s).owner ≡ i
          → ((0 < (g (mutex o s)).depth) × ((g (mutex o s)).owner ≡ (mutex o s).owner))
          ⊎ ((thread (mutex o s).owner s).current ≡ (thread (mutex o s).owner s).base)
          → (thread i s).current ≡ (thread i s).base
      parted i none e (inl (deep, same)) =
          let still : owns o i (alter_mutex o g s) ≡ true =
          rw (alter-at g o s.mutexes absent_mutex (omega (arith, w.objects.many_mutexes)))
          (both (lt-ltb 0 (g (mutex o s)).depth deep) (eq-eqb (g (mutex o s)).owner i (same ∙ e))) in
          let z : false ≡ true = sym (none_after i none o below) ∙ still in
          cc
      parted i none e (inr level) = rw (← e) level

      by_test : (i : ℕ) → owns_none i (alter_mutex o g s) → (b : Bool) → owns o i s ≡ b → (thread i s).current ≡ (thread i s).base
      by_test i none true e =
          parted i none (eqb-true (mutex o s).owner i (right (ltb 0 (mutex o s).depth) (eqb (mutex o s).owner i) e))
          (currents (ltb-true 0 (mutex o s).depth (left (ltb 0 (mutex o s).depth) (eqb (mutex o s).owner i) e)))
      by_test i none false e =
          currents-kept i
          (some_below-none (λ x. owns x i s) 4
          (λ x h.
          elim (ℕ_discrete x o) [
            | yes same ↦ rw same e
            | no other ↦ rw (← alter_other g o s.mutexes x absent_mutex other) (none_after i none x h)
          ]))

      claiming : Each s.waits 10 4 (λ x i. Claiming i (thread i s) (mutex x (alter_mutex o g s)))
      claiming =
          each-kept g o s.mutexes absent_mutex 10 4 (λ i a. Claiming i (thread i s) a) w.claiming
          (λ h i on p.
          record { result = p.result; mask = p.mask; mode = p.mode; there = there p.there; owned = (others i on).0; others = (others i on).1 })

  pub flags-lawful : (o : ℕ) (g : Flags → Flags) → o < 4 → FlagsFits (g (flag_object o s))
      → ((flag_object o s).created ≡ 1 → (g (flag_object o s)).created ≡ 1)
      → ((i : ℕ) → 0 < count i (list (14 + o) s) → holds (thread i s).mode (thread i s).mask (g (flag_object o s)).word ≡ false)
      → Lawful k (alter_flags o g s)
  flags-lawful o g below fits there unmet =
      beside_lawful (alter_flags o g s) w.clock w.off objects currents-kept w.owners w.pending w.claiming awaiting
    where
      objects : Objects s.semaphores s.mutexes (alter o g s.flags) s.timers
      objects =
          record {
            many_semaphores = w.objects.many_semaphores;
            many_mutexes = w.objects.many_mutexes;
            many_flags = length-alter o g s.flags ∙ w.objects.many_flags;
            many_timers = w.objects.many_timers;
            semaphores = w.objects.semaphores;
            mutexes = w.objects.mutexes;
            flags = alter-holds (λ x a. FlagsFits a) g o s.flags absent_flags w.objects.flags fits;
            timers = w.objects.timers;
            posting = w.objects.posting;
            setting = λ x h.
                alter-holds (λ y a. (flag_object y s).created ≡ 1 → a.created ≡ 1) g o s.flags absent_flags (λ y there. there) there
                (timer x s).object (w.objects.setting x h);
          }

      awaiting : Each s.waits 14 4 (λ x i. Awaiting (thread i s) (flag_object x (alter_flags o g s)))
      awaiting =
          each-kept g o s.flags absent_flags 14 4 (λ i a. Awaiting (thread i s) a) w.awaiting
          (λ h i on p. record { result = p.result; mask = p.mask; unmet = unmet i on; there = there p.there })

  pub timer-lawful : (o : ℕ) (g : Timer → Timer) → TimerFits (g (timer o s))
      → ((g (timer o s)).kind ≡ 1 → (semaphore (g (timer o s)).object s).created ≡ 1)
      → ((g (timer o s)).kind ≡ 2 → (flag_object (g (timer o s)).object s).created ≡ 1)
      → Lawful k (alter_timer o g s)
  timer-lawful o g fits posting setting =
      beside_lawful (alter_timer o g s) w.clock w.off objects currents-kept w.owners w.pending w.claiming w.awaiting
    where
      kept : (P : Timer → Type 0) → ((x : ℕ) → P (timer x s)) → P (g (timer o s)) → (x : ℕ) → P (timer x (alter_timer o g s))
      kept P = alter-holds (λ x a. P a) g o s.timers unused_timer

      objects : Objects s.semaphores s.mutexes s.flags (alter o g s.timers)
      objects =
          record {
            many_semaphores = w.objects.many_semaphores;
            many_mutexes = w.objects.many_mutexes;
            many_flags = w.objects.many_flags;
            many_timers = length-alter o g s.timers ∙ w.objects.many_timers;
            semaphores = w.objects.semaphores;
            mutexes = w.objects.mutexes;
            flags = w.objects.flags;
            timers = kept TimerFits w.objects.timers fits;
            posting = kept (λ t. t.kind ≡ 1 → (semaphore t.object s).created ≡ 1) w.objects.posting posting;
            setting = kept (λ t. t.kind ≡ 2 → (flag_object t.object s).created ≡ 1) w.objects.setting setting;
          }
