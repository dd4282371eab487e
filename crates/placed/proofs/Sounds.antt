-- In a sound table threads stand as they must, so that what words ask can be met.
use mathlib.Core.Path.{◌≡◌}
use mathlib.Core.Bool.{true}
use mathlib.Core.List.{[]}
use Prim.Native.Nat.{ℕ, ◌<◌, ◌≤◌}
use native.Mathlib.Decide.{dec_lt}
use native.Mathlib.Omega.{arith}
use borrow.Author.Tests.{eqb-true, leb-true, ltb-true}
use lib.Dec.{eqb}
use lib.ListN.{length, get_or, get_or-eq_default}
use Rattle.sequences.specs.Lists.{count, every}
use Rattle.sequences.proofs.Counts.{every-counted, count_all_beyond}
use Rattle.sequences.proofs.Tests.{all_true-at, every-at, every_below-at}
use Rattle.model.specs.State.{State, absent_thread}
use Rattle.model.specs.Parts.{thread, ready_list}
use Rattle.model.specs.Sound.{sizes, shaped, thread_ranges, thread_in_range, ids_in_range, field_ranges, fields_in_range}
use Rattle.model.specs.Sound.{each_on_one_list, ready_by_priority, clauses, sound_but_choice}
use Rattle.placed.specs.Placed.{Placed, standing}

module _ (s : State) (whole : sound_but_choice s ≡ true) where
  -- the clauses that speak of it, by their places in the model's lists
  pub clause : (k : ℕ) → get_or (clauses s) k true ≡ true
  unfolding sound_but_choice
  clause k = all_true-at (clauses s) k whole

  pub size : (k : ℕ) → get_or (sizes s) k true ≡ true
  unfolding clauses shaped
  size k = all_true-at (sizes s) k (clause 0)

  many-threads : length s.threads ≡ 16
  many-threads = eqb-true (length s.threads) 16 (size 0)

  many-ready : length s.ready ≡ 8
  many-ready = eqb-true (length s.ready) 8 (size 5)

  pub field : (k : ℕ) → get_or (field_ranges s) k true ≡ true
  unfolding clauses fields_in_range
  field k = all_true-at (field_ranges s) k (clause 1)

  -- the ranges of a thread that is there
  range : (i : ℕ) → i < 16 → (k : ℕ) → get_or (thread_ranges (thread i s)) k true ≡ true
  unfolding thread_in_range
  range i h k = all_true-at (thread_ranges (thread i s)) k (every-at thread_in_range absent_thread s.threads i (omega (arith, many-threads)) (field 2))

  known : (x : ℕ) → 16 ≤ x → standing x s ≡ 0
  unfolding ids_in_range
  known x h =
      let ready = count_all_beyond 16 s.ready x (field 7) h in
      let waits = count_all_beyond 16 s.waits x (field 8) h in
      omega arith

  on_one : (i : ℕ) → i < 16 → standing i s ≡ (thread i s).created
  unfolding clauses each_on_one_list
  on_one i h = eqb-true (standing i s) (thread i s).created (every_below-at (λ i. eqb (standing i s) (thread i s).created) 16 i h (clause 2))

  level : (p i : ℕ) → 0 < count i (ready_list p s) → (thread i s).current ≡ p
  unfolding clauses ready_by_priority
  level p i h =
      elim (dec_lt p 8) [
        | yes below ↦
            eqb-true (thread i s).current p
            (every-counted (λ i. eqb (thread i s).current p) (ready_list p s) i
            (every_below-at (λ p. every (λ i. eqb (thread i s).current p) (ready_list p s)) 8 p below (clause 4)) h)
        | no above ↦ absurd (omega (arith, rw (get_or-eq_default s.ready [] {n = p} (omega (arith, many-ready))) at h))
      ]

  priority : (i : ℕ) → (thread i s).current < 8
  priority i =
      elim (dec_lt i 16) [
        | yes h ↦ ltb-true (thread i s).current 8 (range i h 2)
        | no h ↦ rw (get_or-eq_default s.threads absent_thread {n = i} (omega (arith, many-threads))) (omega arith)
      ]

  once : (i : ℕ) → standing i s ≤ 1
  once i =
      elim (dec_lt i 16) [
        | yes h ↦ omega (arith, on_one i h, leb-true (thread i s).created 1 (range i h 0))
        | no h ↦ omega (arith, known i (omega arith))
      ]

  pub sound-placed : Placed s
  sound-placed =
      record {
        threads = many-threads;
        ready = many-ready;
        waits = eqb-true (length s.waits) 18 (size 6);
        once = once;
        known = known;
        level = level;
        priorities = priority;
      }
