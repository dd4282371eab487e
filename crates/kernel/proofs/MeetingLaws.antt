-- A loop over a list of the table as it stood before.
use mathlib.Core.Path.{◌≡◌, refl, sym, ◌∙◌}
use mathlib.Core.List.{List}
use Prim.Native.Nat.{ℕ, ◌+◌, ◌<◌, ◌≤◌}
use native.Mathlib.Omega.{arith}
use lib.ListN.{length, get_or, drop, drop_of_length-le}
use Rattle.sequences.proofs.Counts.{count-there}
use Rattle.model.specs.declared.tables.Table.{Table}
use Rattle.model.specs.State.{State}
use Rattle.model.specs.Effects.{wake_each, met}
use Rattle.model.specs.Before as layout
use Rattle.model.specs.Before.{view, ids_of, list_at}
use Rattle.placed.proofs.Standing.{standing_below}
use Rattle.table.specs.Orderly.{Whole, Does}
use Rattle.table.proofs.Rooms.{whole_then}
use Rattle.table.proofs.StoredLists.{listed-standing}
use Rattle.theorems.specs.Meeting.{wake_met}
use Rattle.theorems.proofs.Meeting.{wake_met-placed, met_next}

-- those before place k have had their turn: what is left to do from here is what was to do from s
pub record Waking (word : ℕ) (l : List ℕ) (s : State) (k : ℕ) (t : Table) (rows : layout.Rows) : Type 0 where
  pub whole : Whole t rows
  pub rest : wake_each word (met word (drop k l) (view t rows)) (view t rows) ≡ wake_each word (met word l s) s

module _ {t : Table} {rows : layout.Rows} (w : Whole t rows) (j : ℕ) (below : j < 18) where
  abbrev ids : List ℕ
  ids = ids_of (list_at t.waits j)

  pub listed-thread : (k : ℕ) → k < length ids → get_or ids k 0 < 16
  listed-thread k h =
      let x = get_or ids k 0 in standing_below w.placed x (omega (arith, count-there ids k h, listed-standing w j below x))

  module _ {word : ℕ} {s : State} {k : ℕ} {u : Table} {now : layout.Rows} (so_far : Waking word ids s k u now) where
    pub waking_next : k < length ids → {r : Table} {after : layout.Rows} → Does u now (wake_met word (get_or ids k 0)) r after
        → Waking word ids s (k + 1) r after
    waking_next h d =
        let i = get_or ids k 0 in
        record {
          whole = whole_then (λ s. wake_met-placed word i s (listed-thread k h)) d so_far.whole;
          rest =
              rw d.view
              (sym (met_next word ids k i (view u now) refl (λ x. omega (arith, listed-standing w j below x, w.placed.once x)) h) ∙ so_far.rest);
        }

    pub waking_done : length ids ≤ k → view u now ≡ wake_each word (met word ids s) s
    unfolding wake_each
    waking_done h = rw (drop_of_length-le ids {i = k} h) at so_far.rest
