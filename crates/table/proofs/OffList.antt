-- Off the list that a thread stands on, where that is no ready list. j is its number as the search gave it; who stands there isn't ready.
use mathlib.Core.Path.{◌≡◌, sym, ◌∙◌}
use mathlib.Core.List.{List, [], map}
use Prim.Native.Nat.{ℕ, ◌<◌, ◌≤◌}
use native.Mathlib.Omega.{arith}
use lib.ListN.{length, get_or, length-map}
use Rattle.sequences.specs.Lists.{alter, among, count, count_all, first_at, without}
use Rattle.sequences.proofs.Counts.{count_all-at, first-list}
use Rattle.sequences.proofs.Searches.{first_at-most}
use Rattle.model.specs.declared.tables.Table.{Table}
use Rattle.model.specs.Parts.{with_waits}
use Rattle.model.specs.Words.{leave}
use Rattle.model.specs.Before as layout
use Rattle.model.specs.Before.{view, ids_of, list_at}
use Rattle.placed.proofs.Leaving.{leave-from-list}
use Rattle.table.specs.Orderly.{Given, Meets, Does}
use Rattle.table.proofs.Views.{does, same_word, list-view}

module _ {t : Table} {rows : layout.Rows} {i : ℕ} (g : Given t rows i) where
  abbrev lists : List (List ℕ)
  lists = map ids_of t.waits

  lists-many : length lists ≡ 18
  lists-many = length-map t.waits ids_of ∙ g.whole.order.table.waits

  pub once-on : (j : ℕ) → count i (ids_of (list_at t.waits j)) ≤ 1
  once-on j = rw (← list-view t rows j) (omega (arith, g.whole.placed.once i, count_all-at i (view t rows).waits j))

  module _ {j : ℕ} (e : j ≡ first_at (among i) lists) where
    pub on_some : (j ≡ 18 → ⊥) → j < 18
    on_some some = omega (arith, e, some, lists-many, first_at-most (among i) lists)

    pub left-list : j < 18 → {r : Table} → Meets t (λ s. with_waits (alter j (without i) s.waits) s) r → Does t rows (leave i) r rows
    unfolding view
    left-list below m =
        let here : 0 < count i (get_or lists j []) = rw e (first-list i lists (rw (← e) (omega (arith, lists-many)))) in
        let unready : count_all i (view t rows).ready ≡ 0 = omega (arith, g.whole.placed.once i, count_all-at i lists j) in
        same_word (leave i) (does rows g.whole.order m) (sym (leave-from-list g.whole.placed i j e below unready))
