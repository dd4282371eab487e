-- Where every thread stands by its mark, the clauses of soundness about threads pass: one about each thread by its mark, one about a list's members
-- by the mark that all of them have, and the order of a wait list by the previous links.
use mathlib.Core.Path.{◌≡◌, refl, sym, ◌∙◌}
use mathlib.Core.Bool.{Bool, true, false, cond, not, ◌&&◌, ◌||◌}
use mathlib.Core.List.{List, [], ◌∷◌, map}
use Prim.Native.Nat.{ℕ, zero, suc, ◌+◌, ◌-◌, ◌<◌, ◌≤◌}
use native.Mathlib.Omega.{arith}
use borrow.Author.Tests.{eqb-true, leb-true, ltb-true, ltb-false, eqb-false, not-true, eq-eqb, le-leb, lt-ltb}
use lib.Dec.{eqb, leb, ltb, eqb-suc-zero}
use lib.ListN.{get_or, drop}
use Rattle.sequences.specs.Lists.{count, every, falls, all_true}
use Rattle.sequences.specs.Bytes.{Bytes, Each}
use Rattle.sequences.specs.Links.{Orderly}
use Rattle.sequences.proofs.Tests.{both, left, right, or_cases, every-from, every_below-from}
use Rattle.sequences.proofs.Parts.{every_if_counted}
use Rattle.sequences.proofs.Halves.{member_inside}
use Rattle.links.specs.Noted.{mark}
use Rattle.model.specs.State.{absent_thread}
use Rattle.model.specs.Parts.{thread}
use Rattle.model.specs.Ranges.{◌implies◌}
use Rattle.model.specs.Words.{owns_any}
use Rattle.model.specs.Sound.{thread_ranges, thread_in_range, each_on_one_list, absent_threads_zero, ready_by_priority, wait_lists_fall, currents_fit}
use Rattle.model.specs.Sound.{conditions_unmet, flag_waiters_masked, sleepers_limited, others_unlimited, others_maskless, waits_without_result, quanta_fit}
use Rattle.model.specs.Layout.{view, links_part, lists_of}
use Rattle.fields.specs.Fields.{Sized}
use Rattle.sound.specs.Asked.{priority_fits, quantum_fits, behind_previous}
use Rattle.sound.proofs.Sorted.{thread_clauses}
use Rattle.sound.proofs.Marks.{mark-there}
use Rattle.layout.proofs.Viewed.{ready_linked, list_linked, many-threads, thread_fits}
use Rattle.sound.proofs.Places.{wait-list-seen, previous_seen}
use Rattle.sound.proofs.Places.{standing-marked, sleeps-marked, waiting_marked, flags-marked}
use Rattle.sound.proofs.Falling.{list-falls}
use Rattle.sound.proofs.AtThread.{Stands, stands-created}

implied : (a c : Bool) → (a ≡ true → c ≡ true) → a implies c ≡ true
implied true c f = f refl
implied false c f = refl

true_each : (bs : List Bool) → Each (λ (x : Bool). x ≡ true) bs → all_true bs ≡ true
true_each [] h = refl
true_each (x ∷ bs) h = both h.0 (true_each bs h.1)

unmarked : (m none : ℕ) → none ≡ 0 → none ≡ cond (eqb m 0) 0 1 → m ≡ 0
unmarked zero none e s = refl
unmarked (suc m) none e s = absurd (omega (arith, rw eqb-suc-zero at s))

bit : (a : Bool) → cond a 0 1 ≤ 1
bit true = omega arith
bit false = omega arith

module _ (b : List ℕ) (o : Bytes b) (size : Sized b) (w : Orderly 16 26 (links_part b))
    (all : (i : ℕ) → i < 16 → Stands (mark i (lists_of b)) i b) where
  -- ---- at each thread

  created : (i : ℕ) → i < 16 → (thread i (view b)).created ≡ cond (eqb (mark i (lists_of b)) 0) 0 1
  created i h = stands-created (mark i (lists_of b)) i b (all i h)

  priority_at : (i : ℕ) → i < 16
      → ((thread i (view b)).current < 8)
      × (leb (thread i (view b)).base (thread i (view b)).current
      && (owns_any i (view b) || eqb (thread i (view b)).current (thread i (view b)).base) ≡ true)
  unfolding priority_fits
  priority_at i h =
      let t = thread i (view b) in
      let own = leb t.base t.current && (owns_any i (view b) || eqb t.current t.base) in
      (ltb-true t.current 8 (left (ltb t.current 8) own (all i h).priority), right (ltb t.current 8) own (all i h).priority)

  in_range-at : (i : ℕ) → i < 16 → thread_in_range (thread i (view b)) ≡ true
  unfolding thread_in_range
  in_range-at i h =
      let t = thread i (view b) in
      let s = all i h in
      let fits = thread_fits b o i h in
      let current = (priority_at i h).0 in
      let base =
      leb-true t.base t.current (left (leb t.base t.current) (owns_any i (view b) || eqb t.current t.base) (priority_at i h).1) in
      true_each (thread_ranges t)
      (omega (arith, le-leb, lt-ltb, created i h, bit (eqb (mark i (lists_of b)) 0), s.waits.rests.result, s.waits.rests.mode))

  in_range : every thread_in_range (view b).threads ≡ true
  in_range = every-from thread_in_range absent_thread (view b).threads (λ i h. in_range-at i (omega (arith, many-threads b)))

  on_one : each_on_one_list (view b) ≡ true
  unfolding each_on_one_list
  on_one = every_below-from _ 16 (λ i h. eq-eqb _ _ (standing-marked b w i ∙ sym (created i h)))

  absent : absent_threads_zero (view b) ≡ true
  unfolding absent_threads_zero
  absent =
      every_below-from _ 16
      (λ i h.
      let there = (thread i (view b)).created in
      implied _ _ (λ e. (all i h).absent (unmarked (mark i (lists_of b)) there (eqb-true there 0 e) (created i h))))

  currents : currents_fit (view b) ≡ true
  unfolding currents_fit
  currents = every_below-from _ 16 (λ i h. (priority_at i h).1)

  unlimited : others_unlimited (view b) ≡ true
  unfolding others_unlimited
  unlimited =
      every_below-from _ 16
      (λ i h.
      let m = mark i (lists_of b) in
      rw (waiting_marked b w i, sleeps-marked b w i)
      (implied (not (ltb 10 m) && not (eqb m 9)) (eqb (thread i (view b)).limit 0)
      (λ e.
      let awake = ltb-false 10 m (not-true (ltb 10 m) (left (not (ltb 10 m)) (not (eqb m 9)) e)) in
      let up = eqb-false m 9 (not-true (eqb m 9) (right (not (ltb 10 m)) (not (eqb m 9)) e)) in
      eq-eqb (thread i (view b)).limit 0 ((all i h).waits.rests.unlimited awake up))))

  maskless : others_maskless (view b) ≡ true
  unfolding others_maskless
  maskless =
      every_below-from _ 16
      (λ i h.
      let m = mark i (lists_of b) in
      let t = thread i (view b) in
      rw (flags-marked b w i)
      (implied (not (ltb 22 m)) (eqb t.mask 0 && eqb t.mode 0)
      (λ e.
      let k = ltb-false 22 m (not-true (ltb 22 m) e) in
      both (eq-eqb t.mask 0 ((all i h).waits.rests.maskless k)) (eq-eqb t.mode 0 ((all i h).waits.rests.modeless k)))))

  resultless : waits_without_result (view b) ≡ true
  unfolding waits_without_result
  resultless =
      every_below-from _ 16
      (λ i h.
      let m = mark i (lists_of b) in
      let none : 8 < m → (m ≡ 10 → ⊥) → eqb (thread i (view b)).result 0 ≡ true =
      λ k n. eq-eqb (thread i (view b)).result 0 ((all i h).waits.rests.resultless k n) in
      rw (waiting_marked b w i, sleeps-marked b w i)
      (implied (ltb 10 m || eqb m 9) (eqb (thread i (view b)).result 0)
      (λ e.
      or_cases (ltb 10 m) (eqb m 9) e
      (λ k. let l = ltb-true 10 m k in none (omega arith) (λ z. omega arith))
      (λ k. let l = eqb-true m 9 k in none (omega arith) (λ z. omega arith)))))

  quanta : quanta_fit (view b) ≡ true
  unfolding quanta_fit quantum_fits
  quanta = every_below-from _ 16 (λ i h. (all i h).quantum)

  -- ---- at each member of a list

  member : (j i : ℕ) → 0 < count i (get_or (lists_of b) j []) → Stands (suc j) i b
  member j i c = rw (mark-there w.apart i j c) at (all i (member_inside w.apart j i c))

  ready : ready_by_priority (view b) ≡ true
  unfolding ready_by_priority
  ready =
      every_below-from _ 8
      (λ p h.
      rw (ready_linked b p h)
      (every_if_counted (λ i. eqb (thread i (view b)).current p) (get_or (lists_of b) p [])
      (λ i c. eq-eqb (thread i (view b)).current p (omega (arith, (member p i c).waits.rests.ready (omega arith) (omega arith))))))

  falling : wait_lists_fall (view b) ≡ true
  unfolding wait_lists_fall behind_previous
  falling =
      let current : ℕ → ℕ = λ i. (thread i (view b)).current in
      every-from (λ l. falls (map current l)) [] (drop 2 (view b).waits)
      (λ k h.
      rw (wait-list-seen b k)
      (list-falls current w (10 + k)
      (λ i c. rw (previous_seen b size i (member_inside w.apart (10 + k) i c)) ((member (10 + k) i c).waits.behind (omega arith)))))

  unmet : conditions_unmet (view b) ≡ true
  unfolding conditions_unmet
  unmet =
      every_below-from _ 4
      (λ f h.
      rw (list_linked b (14 + f))
      (every_if_counted _ (get_or (lists_of b) (8 + (14 + f)) [])
      (λ i c.
      let same : suc (8 + (14 + f)) - 23 ≡ f = omega arith in
      rw same at ((member (8 + (14 + f)) i c).waits.unmet (omega arith)))))

  masked : flag_waiters_masked (view b) ≡ true
  unfolding flag_waiters_masked
  masked =
      every_below-from _ 4
      (λ f h.
      rw (list_linked b (14 + f))
      (every_if_counted (λ i. ltb 0 (thread i (view b)).mask && leb (thread i (view b)).mode 3) (get_or (lists_of b) (8 + (14 + f)) [])
      (λ i c.
      let s = (member (8 + (14 + f)) i c).waits.rests in
      both (lt-ltb 0 (thread i (view b)).mask (s.masked (omega arith))) (le-leb (thread i (view b)).mode 3 s.mode))))

  sleepers : sleepers_limited (view b) ≡ true
  unfolding sleepers_limited
  sleepers =
      rw (list_linked b 0)
      (every_if_counted (λ i. ltb 0 (thread i (view b)).limit) (get_or (lists_of b) 8 [])
      (λ i c. lt-ltb 0 (thread i (view b)).limit ((member 8 i c).waits.rests.limited refl)))

  pub standing-clauses : all_true (thread_clauses (view b)) ≡ true
  standing-clauses =
      both in_range (both on_one (both absent (both ready (both falling (both currents (both unmet (both masked (both sleepers
      (both unlimited (both maskless (both resultless (both quanta refl))))))))))))
