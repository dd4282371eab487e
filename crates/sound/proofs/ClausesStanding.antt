-- Where the clauses of soundness about threads pass, every thread stands by its mark: a clause about each thread is asked at this one, a clause about
-- lists at the list that the mark names.
use mathlib.Core.Path.{◌≡◌, sym, ◌∙◌}
use mathlib.Core.Bool.{Bool, true, cond, not, ◌&&◌, ◌||◌}
use mathlib.Core.List.{List, [], map}
use Prim.Native.Nat.{ℕ, suc, ◌+◌, ◌-◌, ◌<◌, ◌≤◌}
use native.Mathlib.Decide.{dec_lt}
use native.Mathlib.Omega.{arith}
use borrow.Author.Tests.{eqb-true, leb-true, ltb-true, eq-eqb, ne_eqb, lt-ltb, le-ltb}
use lib.Dec.{eqb, leb, ltb}
use lib.ListN.{get_or, drop}
use Rattle.sequences.specs.Lists.{count, count_all, every, falls, all_true}
use Rattle.sequences.specs.Bytes.{Each}
use Rattle.sequences.specs.Links.{Orderly}
use Rattle.sequences.proofs.Tests.{both, left, right, or_right, all_true-at, every-at, every_below-at}
use Rattle.sequences.proofs.Counts.{every-counted}
use Rattle.sequences.proofs.Parts.{counted_below}
use Rattle.sequences.proofs.Each.{each_true}
use Rattle.links.specs.Noted.{mark}
use Rattle.model.specs.State.{absent_thread}
use Rattle.model.specs.Parts.{thread, flag_object, ready_list, list}
use Rattle.model.specs.Ranges.{◌implies◌}
use Rattle.model.specs.Words.{owns_any, holds, is_waiting, sleeps, awaits_flags}
use Rattle.model.specs.Sound.{thread_ranges, thread_in_range, zero_thread, each_on_one_list, absent_threads_zero, ready_by_priority}
use Rattle.model.specs.Sound.{wait_lists_fall, currents_fit, conditions_unmet, flag_waiters_masked, sleepers_limited, others_unlimited, others_maskless}
use Rattle.model.specs.Sound.{waits_without_result, quanta_fit}
use Rattle.model.specs.Layout.{view, links_part, lists_of}
use Rattle.fields.specs.Fields.{Sized}
use Rattle.sound.specs.Asked.{priority_fits, quantum_fits, behind_previous}
use Rattle.sound.proofs.Sorted.{thread_clauses}
use Rattle.sound.proofs.Marks.{mark-most, marked-there}
use Rattle.layout.proofs.Viewed.{ready_linked, list_linked, many-threads}
use Rattle.sound.proofs.Places.{wait-list-seen, previous_seen}
use Rattle.sound.proofs.Places.{standing-marked, sleeps-marked, waiting_marked, flags-marked}
use Rattle.sound.proofs.Falling.{list_follows}
use Rattle.sound.proofs.AtThread.{Rests, Stands}

implied_at : (a c : Bool) → a implies c ≡ true → a ≡ true → c ≡ true
implied_at a c e h = rw h at e

module _ (b : List ℕ) (size : Sized b) (w : Orderly 16 26 (links_part b)) (e : all_true (thread_clauses (view b)) ≡ true) (i : ℕ) (h : i < 16) where
  abbrev m : ℕ
  m = mark i (lists_of b)

  clause : (k : ℕ) → get_or (thread_clauses (view b)) k true ≡ true
  clause k = all_true-at (thread_clauses (view b)) k e

  -- ---- at this thread

  ranges : Each (λ (x : Bool). x ≡ true) (thread_ranges (thread i (view b)))
  unfolding thread_in_range
  ranges =
      each_true (thread_ranges (thread i (view b)))
      (every-at thread_in_range absent_thread (view b).threads i (omega (arith, many-threads b)) (clause 0))

  created : (thread i (view b)).created ≡ cond (eqb m 0) 0 1
  unfolding each_on_one_list
  created =
      sym
      (eqb-true (count_all i (view b).ready + count_all i (view b).waits) (thread i (view b)).created
      (every_below-at (λ i. eqb (count_all i (view b).ready + count_all i (view b).waits) (thread i (view b)).created) 16 i h (clause 1)))
      ∙ standing-marked b w i

  absent : m ≡ 0 → zero_thread (thread i (view b)) ≡ true
  unfolding absent_threads_zero
  absent z =
      let t = thread i (view b) in
      implied_at (eqb t.created 0) (zero_thread t)
      (every_below-at (λ i. eqb (thread i (view b)).created 0 implies zero_thread (thread i (view b))) 16 i h (clause 2))
      (eq-eqb t.created 0 (created ∙ rw z))

  priority : priority_fits i (view b) ≡ true
  unfolding currents_fit priority_fits
  priority =
      both ranges.1.1.0
      (every_below-at
      (λ i.
      leb (thread i (view b)).base (thread i (view b)).current
      && (owns_any i (view b) || eqb (thread i (view b)).current (thread i (view b)).base))
      16 i h (clause 5))

  quantum : quantum_fits (thread i (view b)) ≡ true
  unfolding quanta_fit quantum_fits
  quantum =
      every_below-at
      (λ i.
      leb (thread i (view b)).left (thread i (view b)).quantum
      && (ltb 0 (thread i (view b)).quantum implies ltb 0 (thread i (view b)).left))
      16 i h (clause 12)

  unlimited : m ≤ 10 → (m ≡ 9 → ⊥) → (thread i (view b)).limit ≡ 0
  unfolding others_unlimited
  unlimited k n =
      let limit = (thread i (view b)).limit in
      eqb-true limit 0
      (implied_at (not (ltb 10 m) && not (eqb m 9)) (eqb limit 0)
      (rw (waiting_marked b w i, sleeps-marked b w i)
      at (every_below-at (λ i. not (is_waiting i (view b)) && not (sleeps i (view b)) implies eqb (thread i (view b)).limit 0) 16 i h (clause 9)))
      (rw (le-ltb 10 m k, ne_eqb m 9 n)))

  resultless : 8 < m → (m ≡ 10 → ⊥) → (thread i (view b)).result ≡ 0
  unfolding waits_without_result
  resultless k n =
      let result = (thread i (view b)).result in
      eqb-true result 0
      (implied_at (ltb 10 m || eqb m 9) (eqb result 0)
      (rw (waiting_marked b w i, sleeps-marked b w i)
      at (every_below-at (λ i. is_waiting i (view b) || sleeps i (view b) implies eqb (thread i (view b)).result 0) 16 i h (clause 11)))
      (elim (dec_lt 10 m) [
        | yes l ↦ rw (lt-ltb 10 m l)
        | no l ↦ or_right (ltb 10 m) (eqb m 9) (eq-eqb m 9 (omega arith))
      ]))

  maskless : m ≤ 22 → ((thread i (view b)).mask ≡ 0) × ((thread i (view b)).mode ≡ 0)
  unfolding others_maskless
  maskless k =
      let t = thread i (view b) in
      let none =
      implied_at (not (ltb 22 m)) (eqb t.mask 0 && eqb t.mode 0)
      (rw (flags-marked b w i)
      at (every_below-at (λ i. not (awaits_flags i (view b)) implies eqb (thread i (view b)).mask 0 && eqb (thread i (view b)).mode 0) 16 i h (clause 10)))
      (rw (le-ltb 22 m k)) in
      (eqb-true t.mask 0 (left (eqb t.mask 0) (eqb t.mode 0) none), eqb-true t.mode 0 (right (eqb t.mask 0) (eqb t.mode 0) none))

  -- ---- on its list

  on : (j : ℕ) → suc j ≡ m → 0 < count i (get_or (lists_of b) j [])
  on j s = marked-there w.apart i j (sym s)

  -- who waits for flags waits at the object that its mark names
  flags_object : 22 < m → m - 23 < 4
  flags_object k = omega (arith, mark-most i (lists_of b), w.many)

  awaited : 22 < m → 0 < count i (list (14 + (m - 23)) (view b))
  awaited k = rw (list_linked b (14 + (m - 23))) (on (8 + (14 + (m - 23))) (omega arith))

  ready : 0 < m → m ≤ 8 → suc (thread i (view b)).current ≡ m
  unfolding ready_by_priority
  ready k l =
      let p = m - 1 in
      let below : p < 8 = omega arith in
      let current = (thread i (view b)).current in
      let same =
      eqb-true current p
      (every-counted (λ i. eqb (thread i (view b)).current p) (ready_list p (view b)) i
      (every_below-at (λ p. every (λ i. eqb (thread i (view b)).current p) (ready_list p (view b))) 8 p below (clause 3))
      (rw (ready_linked b p below) (on p (omega arith)))) in
      omega arith

  limited : m ≡ 9 → 0 < (thread i (view b)).limit
  unfolding sleepers_limited
  limited s =
      ltb-true 0 (thread i (view b)).limit
      (every-counted (λ i. ltb 0 (thread i (view b)).limit) (list 0 (view b)) i (clause 8) (rw (list_linked b 0) (on 8 (sym s))))

  behind : 10 < m → behind_previous i b ≡ true
  unfolding wait_lists_fall behind_previous
  behind k =
      let current : ℕ → ℕ = λ i. (thread i (view b)).current in
      let j = m - 11 in
      let waits = drop 2 (view b).waits in
      let here = on (10 + j) (omega arith) in
      let there = counted_below i waits j (rw (wait-list-seen b j) here) in
      let falling = rw (wait-list-seen b j) at (every-at (λ l. falls (map current l)) [] waits j there (clause 4)) in
      rw (← previous_seen b size i h) (list_follows current w (10 + j) falling i here)

  masked : 22 < m → 0 < (thread i (view b)).mask
  unfolding flag_waiters_masked
  masked k =
      let masked : ℕ → Bool = λ i. ltb 0 (thread i (view b)).mask && leb (thread i (view b)).mode 3 in
      let f = m - 23 in
      ltb-true 0 (thread i (view b)).mask
      (left (ltb 0 (thread i (view b)).mask) (leb (thread i (view b)).mode 3)
      (every-counted masked (list (14 + f) (view b)) i
      (every_below-at (λ f. every masked (list (14 + f) (view b))) 4 f (flags_object k) (clause 7)) (awaited k)))

  unmet : 22 < m → not (holds (thread i (view b)).mode (thread i (view b)).mask (flag_object (m - 23) (view b)).word) ≡ true
  unfolding conditions_unmet
  unmet k =
      let unmet : ℕ → ℕ → Bool = λ f i. not (holds (thread i (view b)).mode (thread i (view b)).mask (flag_object f (view b)).word) in
      let f = m - 23 in
      every-counted (unmet f) (list (14 + f) (view b)) i
      (every_below-at (λ f. every (unmet f) (list (14 + f) (view b))) 4 f (flags_object k) (clause 6)) (awaited k)

  rests : Rests m (thread i (view b))
  rests =
      record {
        ready = ready;
        limited = limited;
        unlimited = unlimited;
        result = leb-true (thread i (view b)).result 2 ranges.1.1.1.1.1.1.0;
        resultless = resultless;
        maskless = λ k. (maskless k).0;
        modeless = λ k. (maskless k).1;
        masked = masked;
        mode = leb-true (thread i (view b)).mode 3 ranges.1.1.1.1.1.1.1.1.0;
      }

  pub clauses-standing : Stands m i b
  clauses-standing =
      record {
        absent = absent;
        created = λ k. created ∙ rw (ne_eqb m 0 (λ z. omega arith));
        priority = priority;
        quantum = quantum;
        waits = record { rests = rests; behind = behind; unmet = unmet };
      }
