-- A stored list: its length is that of the list seen, what stands at its places are threads' ids, and who is first.
use mathlib.Core.Path.{◌≡◌, refl, ◌∙◌, ap}
use mathlib.Core.List.{List, [], ◌∷◌}
use Prim.Native.Nat.{ℕ, ◌<◌, ◌≤◌}
use native.Mathlib.Omega.{arith}
use lib.ListN.{length, get_or, take}
use lib.Seq.{get_or-take}
use Rattle.sequences.specs.Lists.{count}
use Rattle.sequences.proofs.Counts.{count-there, count_all-at}
use Rattle.rows.proofs.Rows.{length_held}
use Rattle.model.specs.declared.tables.IdList.{IdList}
use Rattle.model.specs.declared.tables.Table.{Table}
use Rattle.model.specs.Parts.{list}
use Rattle.model.specs.Before as layout
use Rattle.model.specs.Before.{view, ids_of, list_at}
use Rattle.placed.specs.Placed.{standing}
use Rattle.placed.proofs.Standing.{standing_below}
use Rattle.table.specs.Orderly.{Whole}
use Rattle.table.proofs.Views.{list-view}

-- a list that isn't empty by its first
head-rest : (l : List ℕ) → 0 < length l → (rest : List ℕ) × (l ≡ get_or l 0 0 ∷ rest)
head-rest [] h = absurd (omega arith)
head-rest (x ∷ l) h = (l, refl)

module _ {t : Table} {rows : layout.Rows} (w : Whole t rows) (j : ℕ) (below : j < 18) where
  abbrev stored : IdList
  stored = list_at t.waits j

  pub listed-many : length (ids_of stored) ≡ stored.length
  listed-many = length_held (w.order.table.lists j below)

  pub listed_at : (k : ℕ) → k < stored.length → get_or (ids_of stored) k 0 ≡ get_or stored.ids k 0
  listed_at k h = get_or-take stored.length stored.ids k 0 h

  pub listed-standing : (x : ℕ) → count x (ids_of stored) ≤ standing x (view t rows)
  listed-standing x = omega (arith, ap (count x) (list-view t rows j), count_all-at x (view t rows).waits j)

  pub listed_below : (k : ℕ) → k < stored.length → get_or stored.ids k 0 < 16
  listed_below k h =
      let x = get_or stored.ids k 0 in
      let there : 0 < count x (ids_of stored) = rw (← listed_at k h) (count-there (ids_of stored) k (omega (arith, listed-many))) in
      standing_below w.placed x (omega (arith, there, listed-standing x))

  pub none-listed : stored.length ≡ 0 → list j (view t rows) ≡ []
  none-listed e = list-view t rows j ∙ ap (λ (n : ℕ). take n stored.ids) e

  pub first-listed : 0 < stored.length → (rest : List ℕ) × (list j (view t rows) ≡ get_or stored.ids 0 0 ∷ rest)
  first-listed some =
      let found = head-rest (ids_of stored) (omega (arith, listed-many)) in
      (found.0, list-view t rows j ∙ found.1 ∙ ap (λ (x : ℕ). x ∷ found.0) (listed_at 0 some))
