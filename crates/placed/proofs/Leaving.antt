-- Leaving every list is leaving the one list that a thread stands on; and where that is.
use mathlib.Core.Path.{◌≡◌, sym, ◌∙◌, ap}
use mathlib.Core.Bool.{false, ◌&&◌}
use mathlib.Core.List.{List, [], map}
use Prim.Native.Nat.{ℕ, ◌+◌, ◌-◌, ◌<◌, ◌≤◌}
use native.Mathlib.Decide.{dec_lt}
use native.Mathlib.Omega.{arith}
use borrow.Author.Tests.{lt-ltb, le-ltb, le-leb, lt-leb}
use lib.Dec.{leb, ltb}
use lib.ListN.{get_or, take, drop, take-append-drop}
use lib.Seq.{get_or-take, get_or-drop}
use Rattle.sequences.specs.Lists.{alter, count, count_all, without}
use Rattle.sequences.proofs.Counts.{count_all-at, count_all-place, count_all-append, among_any-count, first-list, no_list}
use Rattle.sequences.proofs.Removal.{map-without-one, map-without-none}
use Rattle.model.specs.State.{State}
use Rattle.model.specs.Parts.{thread, ready_list, with_ready, with_waits}
use Rattle.model.specs.Words.{is_ready, is_waiting, list_of, leave}
use Rattle.placed.specs.Placed.{Placed}

module _ {s : State} (w : Placed s) (i : ℕ) where
  -- a ready thread stands on the list of its current priority
  pub ready-level : is_ready i s ≡ ltb 0 (count i (ready_list (thread i s).current s))
  ready-level =
      among_any-count i s.ready
      ∙ elim (dec_lt 0 (count_all i s.ready)) [
        | yes h ↦
            let r = count_all-place i s.ready h in
            let k : 0 < count i (ready_list (thread i s).current s) = rw (w.level r.0 i r.1) r.1 in
            lt-ltb 0 (count_all i s.ready) h ∙ sym (lt-ltb 0 (count i (ready_list (thread i s).current s)) k)
        | no h ↦
            le-ltb 0 (count_all i s.ready) (omega arith)
            ∙ sym (le-ltb 0 (count i (ready_list (thread i s).current s)) (omega (arith, count_all-at i s.ready (thread i s).current)))
      ]

  pub leave-from-ready : (p : ℕ) → 0 < count i (ready_list p s) → leave i s ≡ with_ready (alter p (without i) s.ready) s
  unfolding leave
  leave-from-ready p h =
      let a = count_all-at i s.ready p in
      let o = w.once i in
      rw (map-without-one i p s.ready (omega arith) h, map-without-none i s.waits (omega arith))

  pub leave-from_other : count_all i s.ready ≡ 0 → leave i s ≡ with_waits (map (without i) s.waits) s
  unfolding leave
  leave-from_other h = rw (map-without-none i s.ready h)

  -- it waits for an object exactly where the first of the other lists that holds it is a wait list
  pub waiting_list : (j : ℕ) → j ≡ list_of i s → is_waiting i s ≡ (leb 2 j && ltb j 18)
  waiting_list j e = among_any-count i (drop 2 s.waits) ∙ by_place (dec_lt j 18) (dec_lt j 2)
    where
      parts : count_all i (take 2 s.waits) + count_all i (drop 2 s.waits) ≡ count_all i s.waits
      parts = sym (count_all-append i (take 2 s.waits) (drop 2 s.waits)) ∙ ap (count_all i) (take-append-drop 2 s.waits)

      here : j < 18 → 0 < count i (get_or s.waits j [])
      here h = rw e (first-list i s.waits (rw (← e) (omega (arith, w.waits))))

      none : count_all i (drop 2 s.waits) ≡ 0 → ltb 0 (count_all i (drop 2 s.waits)) ≡ false
      none z = le-ltb 0 (count_all i (drop 2 s.waits)) (omega arith)

      by_place : Dec (j < 18) → Dec (j < 2) → ltb 0 (count_all i (drop 2 s.waits)) ≡ (leb 2 j && ltb j 18)
      by_place (yes h) (yes k) =
          let a : count i (get_or (take 2 s.waits) j []) ≤ count_all i (take 2 s.waits) = count_all-at i (take 2 s.waits) j in
          let b : 0 < count i (get_or (take 2 s.waits) j []) = rw (get_or-take 2 s.waits j [] k) (here h) in
          none (omega (arith, parts, w.once i)) ∙ rw (lt-leb 2 j k)
      by_place (yes h) (no k) =
          let m : 2 + (j - 2) ≡ j = omega arith in
          let a : count i (get_or (drop 2 s.waits) (j - 2) []) ≤ count_all i (drop 2 s.waits) = count_all-at i (drop 2 s.waits) (j - 2) in
          let b : 0 < count i (get_or (drop 2 s.waits) (j - 2) []) = rw (get_or-drop 2 s.waits (j - 2) [], m) (here h) in
          lt-ltb 0 (count_all i (drop 2 s.waits)) (omega arith) ∙ rw (le-leb 2 j (omega arith), lt-ltb j 18 h)
      by_place (no h) k =
          let z : count_all i s.waits ≡ 0 = no_list i s.waits (rw (← e) (omega (arith, w.waits))) in
          none (omega (arith, parts)) ∙ rw (le-leb 2 j (omega arith), le-ltb j 18 (omega arith))

  -- off the list of that number
  pub leave-from-list : (j : ℕ) → j ≡ list_of i s → j < 18 → count_all i s.ready ≡ 0 → leave i s ≡ with_waits (alter j (without i) s.waits) s
  leave-from-list j e h none =
      let o = w.once i in
      leave-from_other none
      ∙ ap (λ (l : List (List ℕ)). with_waits l s)
      (map-without-one i j s.waits (omega arith) (rw e (first-list i s.waits (rw (← e) (omega (arith, w.waits))))))
