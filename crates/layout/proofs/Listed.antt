-- What leaving and entering do to the ready lists and to the others, told of all lists that the links lead through: ready list p is list p of them,
-- and list j of the others comes behind all ready lists.
use mathlib.Core.Path.{◌≡◌}
use mathlib.Core.List.{List, map}
use Prim.Native.Nat.{ℕ, ◌+◌, ◌<◌}
use native.Mathlib.Omega.{arith}
use Rattle.sequences.specs.Lists.{alter, insert_at, snoc, without}
use Rattle.sequences.proofs.Places.{take-alter-rear}
use Rattle.sequences.proofs.Splitting.{take-map, drop-map, take-alter-front, drop-alter-front, drop-alter-rear}
use Rattle.model.specs.State.{priority_count}
use Rattle.model.specs.Parts.{thread, with_ready, with_waits}
use Rattle.model.specs.Words.{leave, enter_tail, enter_ready, rank, enter_by_priority}
use Rattle.model.specs.Layout.{lists_of, view}
use Rattle.layout.proofs.Frames.{with_lists}

-- ---- one list changed

module _ (b : List ℕ) (g : List ℕ → List ℕ) where
  ready_changed : (p : ℕ) → p < priority_count → with_lists (alter p g (lists_of b)) (view b) ≡ with_ready (alter p g (view b).ready) (view b)
  unfolding view
  ready_changed p h = rw (take-alter-front g p priority_count (lists_of b) h, drop-alter-front g p priority_count (lists_of b) h)

  other_changed : (j : ℕ) → with_lists (alter (priority_count + j) g (lists_of b)) (view b) ≡ with_waits (alter j g (view b).waits) (view b)
  unfolding view
  other_changed j =
      rw (take-alter-rear g (priority_count + j) priority_count (lists_of b) (omega arith), drop-alter-rear g j priority_count (lists_of b))

-- ---- the words

pub leave-listed : (b : List ℕ) (i : ℕ) → with_lists (map (without i) (lists_of b)) (view b) ≡ leave i (view b)
unfolding view leave
leave-listed b i = rw (take-map (without i) priority_count (lists_of b), drop-map (without i) priority_count (lists_of b))

pub enter_tail-listed : (b : List ℕ) (j i : ℕ) → with_lists (alter (priority_count + j) (snoc i) (lists_of b)) (view b) ≡ enter_tail j i (view b)
unfolding enter_tail
enter_tail-listed b j i = other_changed b (snoc i) j

pub enter_by_priority-listed : (b : List ℕ) (j i : ℕ)
    → with_lists (alter (priority_count + j) (insert_at (rank j i (view b)) i) (lists_of b)) (view b) ≡ enter_by_priority j i (view b)
unfolding enter_by_priority
enter_by_priority-listed b j i = other_changed b (insert_at (rank j i (view b)) i) j

pub enter_ready-listed : (b : List ℕ) (i : ℕ) → (thread i (view b)).current < priority_count
    → with_lists (alter (thread i (view b)).current (snoc i) (lists_of b)) (view b) ≡ enter_ready i (view b)
unfolding enter_ready
enter_ready-listed b i h = ready_changed b (snoc i) (thread i (view b)).current h
