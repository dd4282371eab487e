-- What follows from where threads stand: who is on a list is a thread, who is off all lists leaves room on each, and who leaves is off
-- them. Leaving keeps it, and so does a change of a record but for the current priority of who is ready.
use mathlib.Core.Path.{◌≡◌, ◌∙◌}
use mathlib.Core.List.{List, ◌∷◌}
use Prim.Native.Nat.{ℕ, ◌<◌, ◌≤◌}
use native.Mathlib.Decide.{ℕ_discrete, dec_lt}
use native.Mathlib.Omega.{arith}
use borrow.Author.Tests.{eq-eqb, ne_eqb}
use lib.ListN.{length, length-map}
use Rattle.sequences.specs.Lists.{count, count_all, without}
use Rattle.sequences.proofs.Members.{counted-left}
use Rattle.sequences.proofs.Counts.{count_all-at, count_all_gone, count_all-kept, few}
use Rattle.sequences.proofs.Places.{length-alter, alter-keeps, alter-holds}
use Rattle.model.specs.declared.tables.Thread.{Thread}
use Rattle.model.specs.State.{State, absent_thread}
use Rattle.model.specs.Parts.{thread, ready_list, list, alter_thread}
use Rattle.model.specs.Words.{leave}
use Rattle.placed.specs.Placed.{Placed, standing}

-- ---- on a list

pub standing_below : {s : State} → Placed s → (i : ℕ) → 0 < standing i s → i < 16
standing_below w i h =
    elim (dec_lt i 16) [
      | yes k ↦ k
      | no k ↦ absurd (omega (arith, w.known i (omega arith)))
    ]

-- ---- leaving all lists

module _ (i : ℕ) (s : State) where
  pub leave_gone : standing i (leave i s) ≡ 0
  unfolding leave
  leave_gone = let a = count_all_gone i s.ready in let b = count_all_gone i s.waits in omega arith

  pub leave-kept : (x : ℕ) → (i ≡ x → ⊥) → standing x (leave i s) ≡ standing x s
  unfolding leave
  leave-kept x n = let a = count_all-kept i x s.ready n in let b = count_all-kept i x s.waits n in omega arith

  pub leave_fewer : (x : ℕ) → standing x (leave i s) ≤ standing x s
  leave_fewer x =
      elim (ℕ_discrete i x) [
        | yes e ↦ rw (← e) (omega (arith, leave_gone))
        | no n ↦ omega (arith, leave-kept x n)
      ]

pub leave-placed : (i : ℕ) (s : State) → Placed s → Placed (leave i s)
unfolding leave
leave-placed i s w =
    record {
      threads = w.threads;
      ready = length-map s.ready (without i) ∙ w.ready;
      waits = length-map s.waits (without i) ∙ w.waits;
      once = λ x. omega (arith, leave_fewer i s x, w.once x);
      known = λ x h. omega (arith, leave_fewer i s x, w.known x h);
      level = λ p x h. w.level p x (counted-left i x p s.ready h);
      priorities = w.priorities;
    }

-- ---- threads and lists as they were

pub unmoved_placed : {s r : State} → r.threads ≡ s.threads → r.ready ≡ s.ready → r.waits ≡ s.waits → Placed s → Placed r
unmoved_placed {s} {r} threads ready waits w =
    record {
      threads = rw threads w.threads;
      ready = rw ready w.ready;
      waits = rw waits w.waits;
      once = λ x. rw (ready, waits) (w.once x);
      known = λ x h. rw (ready, waits) (w.known x h);
      level = λ p x h. rw threads (w.level p x (rw ready at h));
      priorities = λ x. rw threads (w.priorities x);
    }

-- ---- a thread's record changed, but for its current priority

pub alter-placed : (i : ℕ) (g : Thread → Thread) (s : State) → ((t : Thread) → (g t).current ≡ t.current) → Placed s → Placed (alter_thread i g s)
alter-placed i g s same w =
    record {
      threads = length-alter i g s.threads ∙ w.threads;
      ready = w.ready;
      waits = w.waits;
      once = w.once;
      known = w.known;
      level = λ p x h. still x ∙ w.level p x h;
      priorities = λ x. rw (still x) (w.priorities x);
    }
  where
    still : (x : ℕ) → (thread x (alter_thread i g s)).current ≡ (thread x s).current
    still x = alter-keeps (λ (t : Thread). t.current) g same i s.threads x absent_thread

-- ---- any change of the record of a thread that isn't ready

pub unready_placed : (i : ℕ) (g : Thread → Thread) (s : State) → (g (thread i s)).current < 8 → count_all i s.ready ≡ 0 → Placed s
    → Placed (alter_thread i g s)
unready_placed i g s below off w =
    record {
      threads = length-alter i g s.threads ∙ w.threads;
      ready = w.ready;
      waits = w.waits;
      once = w.once;
      known = w.known;
      level = λ p.
          alter-holds (λ x t. 0 < count x (ready_list p s) → t.current ≡ p) g i s.threads absent_thread (w.level p)
          (λ h. absurd (omega (arith, count_all-at i s.ready p)));
      priorities = alter-holds (λ x t. t.current < 8) g i s.threads absent_thread w.priorities below;
    }

-- ---- room

-- no list is longer than there are threads
module _ {s : State} (w : Placed s) where
  short : (l : List ℕ) → ((x : ℕ) → count x l ≤ standing x s) → length l ≤ 16
  short l h = few 16 l (λ x. omega (arith, h x, w.once x)) (λ x k. omega (arith, h x, w.known x k))

  pub short_ready : (p : ℕ) → length (ready_list p s) ≤ 16
  short_ready p = short (ready_list p s) (λ x. omega (arith, count_all-at x s.ready p))

  pub short_list : (j : ℕ) → length (list j s) ≤ 16
  short_list j = short (list j s) (λ x. omega (arith, count_all-at x s.waits j))

module _ {s : State} (w : Placed s) (i : ℕ) (below : i < 16) (off : standing i s ≡ 0) where
  -- it and a list that it isn't on are different threads
  one_more : (l : List ℕ) → ((x : ℕ) → count x l ≤ standing x s) → (x : ℕ) → (count x (i ∷ l) ≤ 1) × (16 ≤ x → count x (i ∷ l) ≡ 0)
  one_more l h x =
      elim (ℕ_discrete i x) [
        | yes e ↦ let z : count x l ≡ 0 = rw (← e) (omega (arith, h i)) in rw (eq-eqb i x e) (omega arith, λ k. absurd (omega arith))
        | no n ↦ rw (ne_eqb i x n) (omega (arith, h x, w.once x), λ k. omega (arith, h x, w.known x k))
      ]

  room : (l : List ℕ) → ((x : ℕ) → count x l ≤ standing x s) → length l < 16
  room l h = few 16 (i ∷ l) (λ x. (one_more l h x).0) (λ x. (one_more l h x).1)

  pub room-ready : (p : ℕ) → length (ready_list p s) < 16
  room-ready p = room (ready_list p s) (λ x. omega (arith, count_all-at x s.ready p))

  pub room-list : (j : ℕ) → length (list j s) < 16
  room-list j = room (list j s) (λ x. omega (arith, count_all-at x s.waits j))
