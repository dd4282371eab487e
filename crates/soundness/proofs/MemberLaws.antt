-- What the walk's lists ask and the clauses of soundness on who stands on lists: list by list they ask the same.
use mathlib.Core.Path.{◌≡◌, refl, sym, ◌∙◌, ap}
use mathlib.Core.Bool.{Bool, true, false, not, ◌&&◌, and-true, and-false, and_comm}
use mathlib.Core.List.{List, [], map}
use Prim.Native.Nat.{ℕ, ◌+◌}
use lib.Dec.{eqb, leb, ltb}
use lib.ListN.{get_or, take, drop, length-drop}
use lib.Seq.{get_or-drop}
use Rattle.sequences.specs.Lists.{every, every_below, take_each, falls}
use Rattle.sequences.proofs.Tests.{every-from, every_below-from, every_below-same, every_below_both, every_below_split}
use Rattle.sequences.proofs.Bounds.{every_two, every-places}
use Rattle.model.specs.declared.tables.Table.{Table}
use Rattle.model.specs.State.{absent_flags}
use Rattle.model.specs.Sound.{ready_by_priority, wait_lists_fall, sleepers_limited, conditions_unmet, flag_waiters_masked}
use Rattle.model.specs.Words.{holds}
use Rattle.model.specs.Before.{Rows, ids_of, view, list_at, thread_at}
use Rattle.soundness.specs.Lists.{member_fits, list_asks, of_ready, of_sleep, of_stopped, of_object, of_flags}
use Rattle.soundness.specs.Whole.{members_fit}
use Rattle.table.proofs.Views.{list-view}
use Rattle.soundness.proofs.ListLaws.{ready_at, waits-count}
use Rattle.soundness.specs.Shape.{Shape}

-- the order by current priority
abbrev in_order : Table → List ℕ → Bool
in_order t ids = falls (map (λ i. (thread_at t.threads i).current) ids)

abbrev list_in-order : Table → ℕ → Bool
list_in-order t j = in_order t (ids_of (list_at t.waits j))

-- what each group of lists asks
abbrev flags-ask : Table → Bool
flags-ask t = every_below 4 (λ o. list_asks of_flags (get_or t.flags o absent_flags).word t.threads (ids_of (list_at t.waits (14 + o))))

abbrev objects-ask : Table → Bool
objects-ask t = every_below 12 (λ k. list_asks of_object 0 t.threads (ids_of (list_at t.waits (2 + k))))

abbrev sleep_asks : Table → Bool
sleep_asks t = every_below 1 (λ k. list_asks of_sleep 0 t.threads (ids_of (list_at t.waits (0 + k))))

abbrev stopped_asks : Table → Bool
stopped_asks t = every_below 1 (λ k. list_asks of_stopped 0 t.threads (ids_of (list_at t.waits (1 + k))))

abbrev ready-ask : Table → Rows → Bool
ready-ask t rows = every_below 8 (λ p. list_asks of_ready p t.threads (take (get_or t.lengths p 0) (get_or rows p [])))

asks_order : (t : Table) (ids : List ℕ) → list_asks of_object 0 t.threads ids ≡ in_order t ids
unfolding list_asks member_fits
asks_order t ids = rw (every-from (λ i. true) 0 ids (λ k h. refl))

asks_nothing : (t : Table) (ids : List ℕ) → list_asks of_stopped 0 t.threads ids ≡ true
unfolding list_asks member_fits
asks_nothing t ids = rw (every-from (λ i. true) 0 ids (λ k h. refl))

sorted_by_clause : (unmet masked flags objects sleep ready : Bool)
    → (((((unmet && masked) && flags) && objects) && sleep) && true) && ready ≡ ready && ((objects && flags) && (sleep && (unmet && (masked && true))))
sorted_by_clause false masked flags objects sleep ready = simp and-false
sorted_by_clause true false flags objects sleep ready = simp and-false
sorted_by_clause true true false objects sleep ready = simp and-false
sorted_by_clause true true true false sleep ready = simp and-false
sorted_by_clause true true true true sleep ready = rw (and-true sleep) (and_comm sleep ready)

module _ (t : Table) (rows : Rows) (w : Shape t rows) where
  ready-clause : ready-ask t rows ≡ ready_by_priority (view t rows)
  unfolding list_asks member_fits ready_by_priority view
  ready-clause =
      let at : ℕ → ℕ → Bool = λ p i. eqb (thread_at t.threads i).current p in
      let stored : ℕ → List ℕ = λ p. take (get_or t.lengths p 0) (get_or rows p []) in
      every_below-same (λ p. every (at p) (stored p) && true) (λ p. every (at p) (get_or (take_each t.lengths rows) p [])) 8
      (λ p h. and-true (every (at p) (stored p)) ∙ ap (every (at p)) (sym (ready_at t rows w p h)))

  order-clause : every_below 12 (λ k. list_in-order t (2 + k)) && every_below 4 (λ o. list_in-order t (14 + o)) ≡ wait_lists_fall (view t rows)
  unfolding every_below wait_lists_fall view
  order-clause =
      let waits = map ids_of t.waits in
      sym (every_below_split (λ j. list_in-order t (2 + j)) 12 4)
      ∙ sym
      (every-places (in_order t) [] (drop 2 waits) 16 (λ j. list_in-order t (2 + j)) (length-drop 2 waits ∙ rw (waits-count t rows w) refl)
      (λ j h. ap (in_order t) (get_or-drop 2 waits j [] ∙ list-view t rows (2 + j))))

  sleep-clause : sleep_asks t ≡ sleepers_limited (view t rows)
  unfolding every_below list_asks member_fits sleepers_limited view
  sleep-clause =
      let limited : ℕ → Bool = λ i. ltb 0 (thread_at t.threads i).limit in
      and-true (every limited (ids_of (list_at t.waits 0))) ∙ ap (every limited) (sym (list-view t rows 0))

  flags-clauses : flags-ask t ≡ (conditions_unmet (view t rows) && flag_waiters_masked (view t rows)) && every_below 4 (λ o. list_in-order t (14 + o))
  unfolding list_asks member_fits conditions_unmet flag_waiters_masked view
  flags-clauses =
      let unmet : ℕ → ℕ → Bool = λ o i. not (holds (thread_at t.threads i).mode (thread_at t.threads i).mask (get_or t.flags o absent_flags).word) in
      let masked : ℕ → Bool = λ i. ltb 0 (thread_at t.threads i).mask && leb (thread_at t.threads i).mode 3 in
      let waiting : ℕ → List ℕ = λ o. get_or (map ids_of t.waits) (14 + o) [] in
      every_below_both (λ o. every (λ i. unmet o i && masked i) (ids_of (list_at t.waits (14 + o)))) (λ o. list_in-order t (14 + o)) 4
      ∙ ap (λ (b : Bool). b && every_below 4 (λ o. list_in-order t (14 + o)))
      (every_below-same (λ o. every (λ i. unmet o i && masked i) (ids_of (list_at t.waits (14 + o))))
      (λ o. every (unmet o) (waiting o) && every masked (waiting o)) 4
      (λ o h. ap (every (λ i. unmet o i && masked i)) (sym (list-view t rows (14 + o))) ∙ every_two (unmet o) masked 0 (waiting o))
      ∙ every_below_both (λ o. every (unmet o) (waiting o)) (λ o. every masked (waiting o)) 4)

  -- the groups in the walk's order, and what it has found of each
  pub members_by_clauses : {flags objects sleep stopped ready : Bool}
      → flags ≡ flags-ask t → objects ≡ objects-ask t → sleep ≡ sleep_asks t → stopped ≡ stopped_asks t → ready ≡ ready-ask t rows
      → flags && objects && sleep && stopped && ready ≡ members_fit (view t rows)
  unfolding members_fit
  members_by_clauses a b c d e =
      let s = view t rows in
      let objects = every_below-same _ (λ k. list_in-order t (2 + k)) 12 (λ k h. asks_order t (ids_of (list_at t.waits (2 + k)))) in
      let stopped = every_below-from _ 1 (λ k h. asks_nothing t (ids_of (list_at t.waits (1 + k)))) in
      rw (a, b, c, d, e, flags-clauses, objects, sleep-clause, stopped, ready-clause, ← order-clause)
      (sorted_by_clause (conditions_unmet s) (flag_waiters_masked s) (every_below 4 (λ o. list_in-order t (14 + o)))
      (every_below 12 (λ k. list_in-order t (2 + k))) (sleepers_limited s) (ready_by_priority s))
