-- The ready list of a thread's current priority: whether the thread is found there, and the table after it left or entered it. x is its record as
-- it was read.
use mathlib.Core.Path.{◌≡◌, sym, ◌∙◌, ap}
use mathlib.Core.Bool.{true}
use mathlib.Core.List.{List, []}
use Prim.Native.Nat.{ℕ, ◌+◌, ◌-◌, ◌<◌, ◌≤◌}
use native.Mathlib.Omega.{arith}
use borrow.Author.Tests.{ltb-true, lt-ltb}
use lib.Dec.{eqb, ltb}
use lib.ListN.{length, get_or, set}
use Rattle.sequences.specs.Lists.{count, first_at, remove_at, without, snoc, take_each}
use Rattle.sequences.proofs.Counts.{count_all-at, first_counts}
use Rattle.sequences.proofs.Places.{alter_alike}
use Rattle.sequences.proofs.Removal.{without-once}
use Rattle.sequences.proofs.Searches.{first_at-most}
use Rattle.rows.specs.Row.{Changed}
use Rattle.rows.proofs.Rows.{length_at}
use Rattle.model.specs.declared.tables.Thread.{Thread}
use Rattle.model.specs.declared.tables.Table.{Table}
use Rattle.model.specs.Parts.{with_ready}
use Rattle.model.specs.Words.{is_ready, leave, enter_ready}
use Rattle.model.specs.Before as layout
use Rattle.model.specs.Before.{view, thread_at}
use Rattle.placed.proofs.Leaving.{ready-level, leave-from-ready}
use Rattle.table.specs.Orderly.{Orderly, Given, Does}
use Rattle.table.proofs.Views.{table-lengths, stored_row, same_word}

-- the place of thread i in the ready list of priority p
abbrev pub found : Table → layout.Rows → ℕ → ℕ → ℕ
found t rows i p = first_at (λ y. eqb y i) (get_or (take_each t.lengths rows) p [])

module _ {t : Table} {rows : layout.Rows} {i : ℕ} {x : Thread} (e : x ≡ thread_at t.threads i) where
  module _ (g : Given t rows i) where
    pub priority_below : x.current < 8
    unfolding view
    priority_below = rw e (g.whole.placed.priorities i)

    pub found_ready : ltb (found t rows i x.current) (get_or t.lengths x.current 0) ≡ is_ready i (view t rows)
    unfolding view
    found_ready =
        ap (ltb (found t rows i x.current)) (sym (length_at g.whole.order.ready x.current priority_below))
        ∙ first_counts i (get_or (take_each t.lengths rows) x.current [])
        ∙ rw e (sym (ready-level g.whole.placed i))

    -- a search that ends before the list does has found it
    pub ready_if_found : {k : ℕ} → k ≡ found t rows i x.current → (k ≡ get_or t.lengths x.current 0 → ⊥)
        → is_ready i (view t rows) ≡ true
    ready_if_found at before =
        let place = found t rows i x.current in
        let n = get_or t.lengths x.current 0 in
        let l = get_or (take_each t.lengths rows) x.current [] in
        let many : length l ≡ n = length_at g.whole.order.ready x.current priority_below in
        let below : place < n = omega (arith, at, before, many, first_at-most (λ (y : ℕ). eqb y i) l) in
        sym found_ready ∙ lt-ltb place n below

    module _ {k : ℕ} (ready : is_ready i (view t rows) ≡ true) (at : k ≡ found t rows i x.current) where
      pub place_found : k < get_or t.lengths x.current 0
      place_found = rw at (ltb-true (found t rows i x.current) (get_or t.lengths x.current 0) (found_ready ∙ ready))

      counted : 0 < count i (get_or (view t rows).ready x.current [])
      unfolding view
      counted = ltb-true 0 (count i (get_or (view t rows).ready x.current [])) (rw e (sym (ready-level g.whole.placed i) ∙ ready))

      pub left-ready : {after : layout.Rows} → Changed 16 8 rows t.lengths x.current (get_or t.lengths x.current 0 - 1) (remove_at k) after
          → Does t rows (leave i) (table-lengths (set t.lengths x.current (get_or t.lengths x.current 0 - 1)) t) after
      unfolding view
      left-ready ch =
          let s = view t rows in
          let once : count i (get_or s.ready x.current []) ≤ 1 = omega (arith, g.whole.placed.once i, count_all-at i s.ready x.current) in
          same_word (leave i) (stored_row g.whole.order ch)
          (ap (λ (l : List (List ℕ)). with_ready l s)
          (alter_alike (remove_at k) (without i) [] s.ready x.current (rw at (sym (without-once i (get_or s.ready x.current []) once))))
          ∙ sym (leave-from-ready g.whole.placed i x.current counted))

  pub entered_ready : Orderly t rows → {after : layout.Rows} → Changed 16 8 rows t.lengths x.current (get_or t.lengths x.current 0 + 1) (snoc i) after
      → Does t rows (enter_ready i) (table-lengths (set t.lengths x.current (get_or t.lengths x.current 0 + 1)) t) after
  unfolding view enter_ready
  entered_ready w ch = same_word (enter_ready i) (stored_row w ch) (rw e)
