-- The pass over the threads tests the clauses of soundness that speak of one thread: every thread passes all of its tests exactly where
-- each of them passes for every thread, and the counts of lists say where a thread stands.
use mathlib.Core.Path.{◌≡◌, ◌∙◌, ap}
use mathlib.Core.Bool.{Bool, true, false, not, ◌&&◌, ◌||◌}
use mathlib.Core.List.{List, [], ◌∷◌, map}
use Prim.Native.Nat.{ℕ, ◌+◌, ◌<◌}
use lib.Dec.{eqb, leb, ltb}
use lib.ListN.{get_or}
use Rattle.sequences.specs.Lists.{every, every_below, all_true, count_all}
use Rattle.sequences.proofs.Positive.{not_positive}
use Rattle.model.specs.declared.tables.Table.{Table}
use Rattle.model.specs.State.{State, absent_thread}
use Rattle.model.specs.Parts.{thread}
use Rattle.model.specs.Ranges.{◌implies◌}
use Rattle.model.specs.Words.{sleeps, is_waiting, awaits_flags, owns_any}
use Rattle.model.specs.Sound.{thread_in_range, zero_thread, each_on_one_list, absent_threads_zero, currents_fit, others_unlimited}
use Rattle.model.specs.Sound.{others_maskless, waits_without_result, quanta_fit}
use Rattle.model.specs.Before.{Rows, view, thread_at}
use Rattle.table.specs.Owners.{owns_one_of}
use Rattle.table.proofs.ByArray.{owns_any-one-of}
use Rattle.soundness.specs.Records.{thread_fits}
use Rattle.soundness.specs.Shape.{Shape}
use Rattle.sequences.proofs.Bounds.{every_by_columns}

-- who neither waits nor sleeps
neither_zero : (a b : Bool) (n : ℕ) → (a || b) ≡ ltb 0 n → (not a && not b) ≡ eqb n 0
neither_zero true b n e = ap not e ∙ not_positive n
neither_zero false b n e = ap not e ∙ not_positive n

-- the tests of the clauses at one thread, but for its ranges
abbrev tests : State → List (ℕ → Bool)
tests s =
    (λ i. eqb (count_all i s.ready + count_all i s.waits) (thread i s).created)
    ∷ (λ i. eqb (thread i s).created 0 implies zero_thread (thread i s))
    ∷ (λ i. leb (thread i s).base (thread i s).current && (owns_any i s || eqb (thread i s).current (thread i s).base))
    ∷ (λ i. not (is_waiting i s) && not (sleeps i s) implies eqb (thread i s).limit 0)
    ∷ (λ i. not (awaits_flags i s) implies eqb (thread i s).mask 0 && eqb (thread i s).mode 0)
    ∷ (λ i. is_waiting i s || sleeps i s implies eqb (thread i s).result 0)
    ∷ (λ i. leb (thread i s).left (thread i s).quantum && (ltb 0 (thread i s).quantum implies ltb 0 (thread i s).left))
    ∷ []

fits_by_tests : (s : State) (i standing resting flagged : ℕ) → count_all i s.ready + count_all i s.waits ≡ standing
    → (is_waiting i s || sleeps i s) ≡ ltb 0 resting → awaits_flags i s ≡ ltb 0 flagged
    → thread_fits (thread i s) standing resting flagged (owns_one_of s.mutexes i)
    ≡ thread_in_range (thread i s) && all_true (map (λ (f : ℕ → Bool). f i) (tests s))
unfolding thread_fits
fits_by_tests s i standing resting flagged stand rest flag =
    rw (stand, neither_zero (is_waiting i s) (sleeps i s) resting rest, rest, flag, not_positive flagged, owns_any-one-of i s)

module _ (t : Table) (rows : Rows) (w : Shape t rows) (standing resting flagged : List ℕ)
    (stand : (i : ℕ) → i < 16 → count_all i (view t rows).ready + count_all i (view t rows).waits ≡ get_or standing i 0)
    (rest : (i : ℕ) → i < 16 → (is_waiting i (view t rows) || sleeps i (view t rows)) ≡ ltb 0 (get_or resting i 0))
    (flag : (i : ℕ) → i < 16 → awaits_flags i (view t rows) ≡ ltb 0 (get_or flagged i 0)) where
  pub threads_by_clauses : every_below 16
      (λ i. thread_fits (thread_at t.threads i) (get_or standing i 0) (get_or resting i 0) (get_or flagged i 0) (owns_one_of t.mutexes i))
      ≡ all_true
      (every thread_in_range (view t rows).threads
      ∷ each_on_one_list (view t rows)
      ∷ absent_threads_zero (view t rows)
      ∷ currents_fit (view t rows)
      ∷ others_unlimited (view t rows)
      ∷ others_maskless (view t rows)
      ∷ waits_without_result (view t rows)
      ∷ quanta_fit (view t rows)
      ∷ [])
  unfolding view each_on_one_list absent_threads_zero currents_fit others_unlimited others_maskless waits_without_result quanta_fit
  threads_by_clauses =
      every_by_columns thread_in_range absent_thread t.threads 16 _ (tests (view t rows)) w.threads
      (λ i h. fits_by_tests (view t rows) i (get_or standing i 0) (get_or resting i 0) (get_or flagged i 0) (stand i h) (rest i h) (flag i h))
