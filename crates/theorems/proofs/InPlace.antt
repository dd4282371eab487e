-- A thread's record changed where the thread stands: what is asked of each thread is asked of this one by what the change keeps, and
-- all others are as they were.
use mathlib.Core.Path.{◌≡◌, refl, ◌∙◌}
use mathlib.Core.Bool.{true}
use mathlib.Core.List.{List, [], map}
use Prim.Native.Nat.{ℕ, ◌+◌, ◌<◌, ◌≤◌}
use native.Mathlib.Omega.{arith}
use lib.ListN.{get_or}
use Rattle.sequences.specs.Lists.{count, count_all, falls}
use Rattle.sequences.proofs.Counts.{count_all-at}
use Rattle.sequences.proofs.Members.{map_same}
use Rattle.sequences.proofs.Places.{length-alter, alter-holds}
use Rattle.model.specs.declared.tables.Thread.{Thread}
use Rattle.model.specs.declared.tables.Semaphore.{Semaphore}
use Rattle.model.specs.declared.tables.Mutex.{Mutex}
use Rattle.model.specs.declared.tables.Flags.{Flags}
use Rattle.model.specs.State.{State, absent_thread}
use Rattle.model.specs.Parts.{thread, semaphore, mutex, flag_object, ready_list, list, alter_thread}
use Rattle.model.specs.Words.{owns_any}
use Rattle.placed.specs.Placed.{Placed}
use Rattle.theorems.specs.Lawful.{ThreadFits, CurrentFits, Idle, Sleeping, Pending, Claiming, Awaiting, Each, Stays, Lawful}
use Rattle.theorems.proofs.Fits.{current_below}

module _ (k i : ℕ) (g : Thread → Thread) (s : State) (w : Lawful k s) (stays : Stays i (g (thread i s)) s) where
  abbrev after : State
  after = alter_thread i g s

  kept : (P : ℕ → Thread → Type 0) → ((x : ℕ) → P x (thread x s)) → P i (g (thread i s)) → (x : ℕ) → P x (thread x after)
  kept P = alter-holds P g i s.threads absent_thread

  kept-each : (lists : List (List ℕ)) (first many : ℕ) (P : ℕ → ℕ → Thread → Type 0)
      → ((o : ℕ) → 0 < count_all i lists → P o i (thread i s) → P o i (g (thread i s)))
      → Each lists first many (λ o x. P o x (thread x s)) → Each lists first many (λ o x. P o x (thread x after))
  kept-each lists first many P own all o x below =
      kept (λ x t. 0 < count x (get_or lists (first + o) []) → P o x t) (λ x. all o x below)
      (λ h. own o (omega (arith, count_all-at i lists (first + o))) (all o i below h)) x

  created : (x : ℕ) → (thread x after).created ≡ (thread x s).created
  created = kept (λ x t. t.created ≡ (thread x s).created) (λ x. refl) stays.created

  -- ---- what each kind of list asks of it

  idle : Idle (thread i s) → Idle (g (thread i s))
  idle h = record { limit = stays.unlimited h.limit; mask = stays.mask ∙ h.mask; mode = stays.mode ∙ h.mode }

  module _ (on : 0 < count_all i s.waits) where
    sleeping : Sleeping (thread i s) → Sleeping (g (thread i s))
    sleeping h =
        record {
          limit = stays.limited h.limit;
          result = stays.result on h.result;
          mask = stays.mask ∙ h.mask;
          mode = stays.mode ∙ h.mode;
        }

    pending : (x : Semaphore) → Pending (thread i s) x → Pending (g (thread i s)) x
    pending x h =
        record {
          result = stays.result on h.result;
          mask = stays.mask ∙ h.mask;
          mode = stays.mode ∙ h.mode;
          there = h.there;
          empty = h.empty;
        }

    claiming : (x : Mutex) → Claiming i (thread i s) x → Claiming i (g (thread i s)) x
    claiming x h =
        record {
          result = stays.result on h.result;
          mask = stays.mask ∙ h.mask;
          mode = stays.mode ∙ h.mode;
          there = h.there;
          owned = h.owned;
          others = h.others;
        }

    awaiting : (x : Flags) → Awaiting (thread i s) x → Awaiting (g (thread i s)) x
    awaiting x h =
        record {
          result = stays.result on h.result;
          mask = rw stays.mask h.mask;
          unmet = rw (stays.mode, stays.mask) h.unmet;
          there = h.there;
        }

  -- ---- what holds of all

  threads : (x : ℕ) → ThreadFits (thread x after)
  threads = kept (λ x t. ThreadFits t) w.threads stays.fits

  current : (x : ℕ) → CurrentFits x (thread x after) after
  unfolding owns_any
  current = kept (λ x t. CurrentFits x t s) w.currents stays.current

  falling : (j : ℕ) → 2 ≤ j → falls (map (λ x. (thread x after).current) (list j s)) ≡ true
  falling j from =
      let same : (x : ℕ) → 0 < count x (list j s) → (thread x after).current ≡ (thread x s).current
      = kept (λ x t. 0 < count x (list j s) → t.current ≡ (thread x s).current) (λ x h. refl) (stays.ranked j from) in
      rw (map_same (λ x. (thread x after).current) (λ x. (thread x s).current) (list j s) same) (w.falling j from)

  placed : Placed after
  placed =
      record {
        threads = length-alter i g s.threads ∙ w.placed.threads;
        ready = w.placed.ready;
        waits = w.placed.waits;
        once = w.placed.once;
        known = w.placed.known;
        level = λ p.
            kept (λ x t. 0 < count x (ready_list p s) → t.current ≡ p) (w.placed.level p)
            (λ h. stays.level (omega (arith, count_all-at i s.ready p)) ∙ w.placed.level p i h);
        priorities = λ x. current_below (threads x);
      }

  pub stays_lawful : Lawful k (alter_thread i g s)
  stays_lawful =
      record {
        clock = w.clock;
        off = w.off;
        objects = w.objects;
        threads = threads;
        currents = current;
        owners = λ o h. created (mutex o s).owner ∙ w.owners o h;
        placed = placed;
        once = λ x n. rw (created x) (w.once x n);
        apart = w.apart;
        falling = falling;
        readies = kept-each s.ready 0 8 (λ o x t. Idle t) (λ o on. idle) w.readies;
        sleepers = kept-each s.waits 0 1 (λ o x t. Sleeping t) (λ o. sleeping) w.sleepers;
        stopped = kept-each s.waits 1 1 (λ o x t. Idle t) (λ o on. idle) w.stopped;
        pending = kept-each s.waits 2 8 (λ o x t. Pending t (semaphore o s)) (λ o on. pending on (semaphore o s)) w.pending;
        claiming = kept-each s.waits 10 4 (λ o x t. Claiming x t (mutex o s)) (λ o on. claiming on (mutex o s)) w.claiming;
        awaiting = kept-each s.waits 14 4 (λ o x t. Awaiting t (flag_object o s)) (λ o on. awaiting on (flag_object o s)) w.awaiting;
      }
