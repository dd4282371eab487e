-- A thread leaves its list, its record changes while it is aside, and it enters another: each keeps all that it doesn't touch.
-- What lists ask is carried over by one law for each kind of change, whatever a list asks.
use mathlib.Core.Path.{◌≡◌, refl, sym, ◌∙◌, ap}
use mathlib.Core.Bool.{true}
use mathlib.Core.Logic.{inl, inr}
use mathlib.Core.List.{List, [], ◌∷◌, map}
use Prim.Native.Nat.{ℕ, ◌+◌, ◌<◌, ◌≤◌}
use native.Mathlib.Decide.{ℕ_discrete, dec_lt}
use native.Mathlib.Omega.{arith}
use borrow.Author.Tests.{eq-eqb, lt-ltb}
use lib.ListN.{length, get_or, get_or-eq_default, get_or-map}
use Rattle.sequences.specs.Lists.{alter, snoc, insert_at, count, count_all, without, falls}
use Rattle.sequences.proofs.Counts.{count-one, count_other, count_all-at}
use Rattle.sequences.proofs.Members.{counted-left, counted-put, map_same}
use Rattle.sequences.proofs.Order.{falls-without, falls_insert}
use Rattle.sequences.proofs.Places.{alter-at, alter_other, alter-holds}
use Rattle.sequences.proofs.Tests.{both, some_below-from}
use Rattle.model.specs.declared.tables.Thread.{Thread}
use Rattle.model.specs.State.{State, absent_thread, absent_mutex, nobody, sleep_list, stopped_list, priority_count, semaphore_count, mutex_count, flags_count}
use Rattle.model.specs.Parts.{thread, semaphore, mutex, flag_object, list, with_ready, with_waits, alter_thread}
use Rattle.model.specs.Words.{leave, enter_ready, enter_tail, enter_by_priority, rank, owns, owns_any}
use Rattle.placed.specs.Placed.{Placed, standing}
use Rattle.placed.proofs.Standing.{leave_gone, leave-kept, leave-placed, unready_placed}
use Rattle.placed.proofs.Entering.{Puts, snoc_puts, insert_puts, put-standing, put-placed, enter_ready-standing, enter_ready-placed}
use Rattle.theorems.specs.Lawful.{ThreadFits, CurrentFits, Idle, Sleeping, Pending, Claiming, Awaiting, Each, Waiting, Lawful}
use Rattle.theorems.proofs.Fits.{current_below}
use Rattle.theorems.proofs.Readings.{there_below}

-- ---- what lists ask

module _ (ls : List (List ℕ)) (first many : ℕ) where
  each_left : (P : ℕ → ℕ → Type 0) (i : ℕ) → Each ls first many P → Each (map (without i) ls) first many P
  each_left P i all o x h k = all o x h (counted-left i x (first + o) ls k)

  each-put : (P : ℕ → ℕ → Type 0) (j i : ℕ) (g : List ℕ → List ℕ) → Puts i g → Each ls first many P → ((o : ℕ) → o < many → j ≡ first + o → P o i)
      → Each (alter j g ls) first many P
  each-put P j i g puts all own o x h k =
      elim (counted-put i g puts x j (first + o) ls k) [
        | inl there ↦ all o x h there
        | inr new ↦ rw new.1 (own o h (sym new.0))
      ]

  -- the record of a thread on none of them changed
  each_altered : (R : ℕ → ℕ → Thread → Type 0) (i : ℕ) (g : Thread → Thread) (s : State) → count_all i ls ≡ 0
      → Each ls first many (λ o x. R o x (thread x s)) → Each ls first many (λ o x. R o x (thread x (alter_thread i g s)))
  each_altered R i g s off all o x h =
      alter-holds (λ x t. 0 < count x (get_or ls (first + o) []) → R o x t) g i s.threads absent_thread (λ x. all o x h)
      (λ k. absurd (omega (arith, count_all-at i ls (first + o)))) x

-- ---- lists changed

absent_beyond : (i : ℕ) (s : State) → Placed s → 16 ≤ i → thread i s ≡ absent_thread
absent_beyond i s w h = get_or-eq_default s.threads absent_thread {n = i} (omega (arith, w.threads))

-- other lists, and another aside: what is asked of records by themselves stays
module _ (i k : ℕ) (ready waits : List (List ℕ)) (s : State) (w : Lawful i s) where
  lists-lawful : Placed (with_ready ready (with_waits waits s))
      → ((x : ℕ) → (x ≡ k → ⊥) → count_all x ready + count_all x waits ≡ (thread x s).created)
      → count_all k ready + count_all k waits ≡ 0
      → ((j : ℕ) → 2 ≤ j → falls (map (λ x. (thread x s).current) (get_or waits j [])) ≡ true)
      → Each ready 0 priority_count (λ p x. Idle (thread x s))
      → Each waits sleep_list 1 (λ o x. Sleeping (thread x s))
      → Each waits stopped_list 1 (λ o x. Idle (thread x s))
      → Each waits 2 semaphore_count (λ o x. Pending (thread x s) (semaphore o s))
      → Each waits 10 mutex_count (λ o x. Claiming x (thread x s) (mutex o s))
      → Each waits 14 flags_count (λ o x. Awaiting (thread x s) (flag_object o s))
      → Lawful k (with_ready ready (with_waits waits s))
  unfolding owns_any
  lists-lawful placed once apart falling readies sleepers stopped pending claiming awaiting =
      record {
        clock = w.clock;
        off = w.off;
        objects = w.objects;
        threads = w.threads;
        currents = w.currents;
        owners = w.owners;
        placed = placed;
        once = once;
        apart = apart;
        falling = falling;
        readies = readies;
        sleepers = sleepers;
        stopped = stopped;
        pending = pending;
        claiming = claiming;
        awaiting = awaiting;
      }

-- ---- aside

-- nobody is no thread
pub whole-once : (s : State) → Lawful nobody s → (x : ℕ) → standing x s ≡ (thread x s).created
whole-once s w x =
    elim (ℕ_discrete x nobody) [
      | yes e ↦ rw (e, absent_beyond nobody s w.placed (omega arith)) w.apart
      | no n ↦ w.once x n
    ]

pub leave-lawful : (i : ℕ) (s : State) → Lawful nobody s → Lawful i (leave i s)
unfolding leave
leave-lawful i s w =
    lists-lawful nobody i (map (without i) s.ready) (map (without i) s.waits) s w (leave-placed i s w.placed)
    (λ x n. leave-kept i s x (λ e. n (sym e)) ∙ whole-once s w x)
    (leave_gone i s)
    (λ j h.
    let e : get_or (map (without i) s.waits) j [] ≡ without i (list j s) = get_or-map (without i) s.waits j [] in
    rw e (falls-without (λ x. (thread x s).current) i (list j s) (w.falling j h)))
    (each_left s.ready 0 priority_count (λ p x. Idle (thread x s)) i w.readies)
    (each_left s.waits sleep_list 1 (λ o x. Sleeping (thread x s)) i w.sleepers)
    (each_left s.waits stopped_list 1 (λ o x. Idle (thread x s)) i w.stopped)
    (each_left s.waits 2 semaphore_count (λ o x. Pending (thread x s) (semaphore o s)) i w.pending)
    (each_left s.waits 10 mutex_count (λ o x. Claiming x (thread x s) (mutex o s)) i w.claiming)
    (each_left s.waits 14 flags_count (λ o x. Awaiting (thread x s) (flag_object o s)) i w.awaiting)

-- an absent thread is off all lists
pub absent_aside : (i : ℕ) (s : State) → Lawful nobody s → (thread i s).created ≡ 0 → Lawful i s
absent_aside i s w none =
    lists-lawful nobody i s.ready s.waits s w w.placed (λ x n. whole-once s w x) (whole-once s w i ∙ none)
    w.falling w.readies w.sleepers w.stopped w.pending w.claiming w.awaiting

pub aside_absent : (i : ℕ) (s : State) → Lawful i s → (thread i s).created ≡ 0 → Lawful nobody s
aside_absent i s w none =
    lists-lawful i nobody s.ready s.waits s w w.placed
    (λ x n.
    elim (ℕ_discrete x i) [
      | yes e ↦ rw e (w.apart ∙ sym none)
      | no other ↦ w.once x other
    ])
    (w.placed.known nobody (omega arith))
    w.falling w.readies w.sleepers w.stopped w.pending w.claiming w.awaiting

-- an owner owns something
owner_owns : (o : ℕ) (s : State) → length s.mutexes ≡ 4 → 0 < (mutex o s).depth → owns_any (mutex o s).owner s ≡ true
unfolding owns_any
owner_owns o s many owned =
    elim (dec_lt o 4) [
      | yes h ↦
          some_below-from (λ q. owns q (mutex o s).owner s) 4 o h
          (both (lt-ltb 0 (mutex o s).depth owned) (eq-eqb (mutex o s).owner (mutex o s).owner refl))
      | no h ↦ absurd (omega (arith, rw (get_or-eq_default s.mutexes absent_mutex {n = o} (omega (arith, many))) at owned))
    ]

pub aside_altered : (i : ℕ) (g : Thread → Thread) (s : State) → Lawful i s → ThreadFits (g (thread i s)) → CurrentFits i (g (thread i s)) s
    → (owns_any i s ≡ true → (g (thread i s)).created ≡ 1) → Lawful i (alter_thread i g s)
unfolding owns_any
aside_altered i g s w fits current there =
    record {
      clock = w.clock;
      off = w.off;
      objects = w.objects;
      threads = alter-holds (λ x t. ThreadFits t) g i s.threads absent_thread w.threads fits;
      currents = alter-holds (λ x t. CurrentFits x t s) g i s.threads absent_thread w.currents current;
      owners = λ o h.
          alter-holds (λ x t. (mutex o s).owner ≡ x → t.created ≡ 1) g i s.threads absent_thread
          (λ x e. rw (← e) (w.owners o h))
          (λ e. there (rw (← e) (owner_owns o s w.objects.many_mutexes h))) (mutex o s).owner refl;
      placed = unready_placed i g s (current_below fits) not-ready w.placed;
      once = λ x n. rw (alter_other g i s.threads x absent_thread n) (w.once x n);
      apart = w.apart;
      falling = λ j h. rw (same-currents j) (w.falling j h);
      readies = each_altered s.ready 0 priority_count (λ p x t. Idle t) i g s not-ready w.readies;
      sleepers = each_altered s.waits sleep_list 1 (λ o x t. Sleeping t) i g s not_waiting w.sleepers;
      stopped = each_altered s.waits stopped_list 1 (λ o x t. Idle t) i g s not_waiting w.stopped;
      pending = each_altered s.waits 2 semaphore_count (λ o x t. Pending t (semaphore o s)) i g s not_waiting w.pending;
      claiming = each_altered s.waits 10 mutex_count (λ o x t. Claiming x t (mutex o s)) i g s not_waiting w.claiming;
      awaiting = each_altered s.waits 14 flags_count (λ o x t. Awaiting t (flag_object o s)) i g s not_waiting w.awaiting;
    }
  where
    not-ready : count_all i s.ready ≡ 0
    not-ready = omega (arith, w.apart)

    not_waiting : count_all i s.waits ≡ 0
    not_waiting = omega (arith, w.apart)

    same-currents : (j : ℕ) → map (λ x. (thread x (alter_thread i g s)).current) (list j s) ≡ map (λ x. (thread x s).current) (list j s)
    same-currents j =
        map_same (λ x. (thread x (alter_thread i g s)).current) (λ x. (thread x s).current) (list j s)
        (λ x h.
        ap (λ (t : Thread). t.current)
        (alter_other g i s.threads x absent_thread (λ e. omega (arith, rw e at h, count_all-at i s.waits j, not_waiting))))

-- ---- back on a list

-- a created thread that was aside and counts once more now stands once
module _ (i : ℕ) (s : State) (w : Lawful i s) (there : (thread i s).created ≡ 1) where
  back-once : (x : ℕ) → count x (i ∷ []) + standing x s ≡ (thread x s).created
  back-once x =
      elim (ℕ_discrete x i) [
        | yes e ↦ rw e (omega (arith, count-one i, w.apart))
        | no n ↦ omega (arith, count_other x i n, w.once x n)
      ]

pub enter_ready-lawful : (i : ℕ) (s : State) → Lawful i s → (thread i s).created ≡ 1 → Idle (thread i s) → Lawful nobody (enter_ready i s)
unfolding enter_ready
enter_ready-lawful i s w there idle =
    let placed : Placed (enter_ready i s) = enter_ready-placed i s (there_below w.placed i there) w.apart w.placed in
    lists-lawful i nobody (alter (thread i s).current (snoc i) s.ready) s.waits s w placed
    (λ x n. enter_ready-standing i s w.placed x ∙ back-once i s w there x)
    (placed.known nobody (omega arith))
    w.falling
    (each-put s.ready 0 priority_count (λ p x. Idle (thread x s)) (thread i s).current i (snoc i) (snoc_puts i) w.readies (λ o h e. idle))
    w.sleepers w.stopped w.pending w.claiming w.awaiting

-- on the list of number j, whatever that list asks
module _ (j i : ℕ) (g : List ℕ → List ℕ) (puts : Puts i g) (s : State) (within : j < 18) (w : Lawful i s) (there : (thread i s).created ≡ 1) where
  put-lawful : (2 ≤ j → falls (map (λ x. (thread x s).current) (g (list j s))) ≡ true)
      → (j ≡ sleep_list → Sleeping (thread i s)) → (j ≡ stopped_list → Idle (thread i s)) → Waiting j i (thread i s) s
      → Lawful nobody (with_waits (alter j g s.waits) s)
  put-lawful falling sleeping idle waiting =
      let placed : Placed (with_waits (alter j g s.waits) s) = put-placed i j g puts s within w.placed (there_below w.placed i there) w.apart in
      lists-lawful i nobody s.ready (alter j g s.waits) s w placed
      (λ x n. put-standing i j g puts s within w.placed x ∙ back-once i s w there x)
      (placed.known nobody (omega arith))
      (λ k h.
      elim (ℕ_discrete k j) [
        | yes e ↦ rw (e, alter-at g j s.waits [] (omega (arith, w.placed.waits))) (falling (omega arith))
        | no n ↦ rw (alter_other g j s.waits k [] n) (w.falling k h)
      ])
      w.readies
      (each-put s.waits sleep_list 1 (λ o x. Sleeping (thread x s)) j i g puts w.sleepers (λ o h e. sleeping (omega arith)))
      (each-put s.waits stopped_list 1 (λ o x. Idle (thread x s)) j i g puts w.stopped (λ o h e. idle (omega arith)))
      (each-put s.waits 2 semaphore_count (λ o x. Pending (thread x s) (semaphore o s)) j i g puts w.pending waiting.pends)
      (each-put s.waits 10 mutex_count (λ o x. Claiming x (thread x s) (mutex o s)) j i g puts w.claiming waiting.claims)
      (each-put s.waits 14 flags_count (λ o x. Awaiting (thread x s) (flag_object o s)) j i g puts w.awaiting waiting.awaits)

-- the lists below the wait lists ask nothing of a wait
no_wait : (j i : ℕ) (s : State) → j < 2 → Waiting j i (thread i s) s
no_wait j i s below =
    record {
      pends = λ o h e. absurd (omega arith);
      claims = λ o h e. absurd (omega arith);
      awaits = λ o h e. absurd (omega arith);
    }

pub enter_sleep-lawful : (i : ℕ) (s : State) → Lawful i s → (thread i s).created ≡ 1 → Sleeping (thread i s)
    → Lawful nobody (enter_tail sleep_list i s)
unfolding enter_tail
enter_sleep-lawful i s w there sleeping =
    put-lawful sleep_list i (snoc i) (snoc_puts i) s (omega arith) w there (λ h. absurd (omega arith)) (λ e. sleeping) (λ e. absurd (omega arith))
    (no_wait sleep_list i s (omega arith))

pub enter_stopped-lawful : (i : ℕ) (s : State) → Lawful i s → (thread i s).created ≡ 1 → Idle (thread i s)
    → Lawful nobody (enter_tail stopped_list i s)
unfolding enter_tail
enter_stopped-lawful i s w there idle =
    put-lawful stopped_list i (snoc i) (snoc_puts i) s (omega arith) w there (λ h. absurd (omega arith)) (λ e. absurd (omega arith)) (λ e. idle)
    (no_wait stopped_list i s (omega arith))

pub enter_wait-lawful : (j i : ℕ) (s : State) → 2 ≤ j → j < 18 → Lawful i s → (thread i s).created ≡ 1 → Waiting j i (thread i s) s
    → Lawful nobody (enter_by_priority j i s)
unfolding enter_by_priority rank
enter_wait-lawful j i s from below w there waiting =
    put-lawful j i (insert_at (rank j i s) i) (insert_puts (rank j i s) i) s below w there
    (λ h. falls_insert (λ x. (thread x s).current) i (list j s) (w.falling j from))
    (λ e. absurd (omega arith)) (λ e. absurd (omega arith)) waiting
