-- Where threads stand as they must: ids in lists are threads', priorities are in range, and a thread off all lists finds room on each.
use mathlib.Core.Path.{◌≡◌, refl, ap}
use Prim.Native.Nat.{ℕ, ◌<◌}
use native.Mathlib.Omega.{arith}
use lib.ListN.{length, get_or}
use Rattle.rows.proofs.Rows.{length_held, length_at}
use Rattle.model.specs.declared.tables.Table.{Table}
use Rattle.model.specs.State.{State}
use Rattle.model.specs.Parts.{alter_thread, with_wait}
use Rattle.model.specs.Words.{leave, suspend}
use Rattle.model.specs.Before as layout
use Rattle.model.specs.Before.{view, list_at, thread_at}
use Rattle.placed.specs.Placed.{Placed, standing}
use Rattle.placed.proofs.Standing.{room-ready, room-list, leave_gone, leave-placed, alter-placed}
use Rattle.table.specs.Orderly.{Whole, Given, Ranked, Does}
use Rattle.table.proofs.Views.{list-view}
use Rattle.table.proofs.StoredLists.{listed_below}

-- a table on which threads stand as they must, and this one stands on no list
pub record Off (t : Table) (rows : layout.Rows) (i : ℕ) : Type 0 where
  pub given : Given t rows i
  pub off : standing i (view t rows) ≡ 0

-- a word that keeps threads standing so leaves a whole table whole
pub whole_then : {t r : Table} {rows after : layout.Rows} {f : State → State} → ((s : State) → Placed s → Placed (f s)) → Does t rows f r after → Whole t rows
    → Whole r after
whole_then {t} {r} {rows} keeps d w = record { order = d.order; placed = rw d.view (keeps (view t rows) w.placed) }

module _ {t r : Table} {rows after : layout.Rows} {f : State → State} (d : Does t rows f r after) {i : ℕ} (below : i < 16) (placed : Placed (f (view t rows))) where
  pub given-after : Given r after i
  given-after = record { whole = record { order = d.order; placed = rw d.view placed }; thread = below }

  pub off-after : standing i (f (view t rows)) ≡ 0 → Off r after i
  off-after off = record { given = given-after; off = rw d.view off }

module _ {t : Table} {rows : layout.Rows} {i : ℕ} (w : Off t rows i) where
  pub priority_in_range : (thread_at t.threads i).current < 8
  unfolding view
  priority_in_range = w.given.whole.placed.priorities i

  pub row_room : (p : ℕ) → p < 8 → get_or t.lengths p 0 < 16
  unfolding view
  row_room p h = omega (arith, room-ready w.given.whole.placed i w.given.thread w.off p, length_at w.given.whole.order.ready p h)

  pub list-room : (j : ℕ) → j < 18 → (list_at t.waits j).length < 16
  list-room j h =
      omega (arith, room-list w.given.whole.placed i w.given.thread w.off j, ap length (list-view t rows j), length_held (w.given.whole.order.table.lists j h))

  pub ranked : (j : ℕ) → j < 18 → Ranked t j i
  ranked j h =
      record { list = h; thread = w.given.thread; ids = listed_below w.given.whole j h }

-- who left is off all lists, and so is who was suspended
pub left-off : {t r : Table} {rows after : layout.Rows} {i : ℕ} → Given t rows i → Does t rows (leave i) r after → Off r after i
left-off {t} {rows = rows} {i = i} g d =
    off-after d g.thread (leave-placed i (view t rows) g.whole.placed) (leave_gone i (view t rows))

pub suspended_off : {t r : Table} {rows after : layout.Rows} {i : ℕ} → Given t rows i → (limit mask mode : ℕ) → Does t rows (suspend i limit mask mode) r after → Off r after i
unfolding suspend
suspended_off {t} {r} {rows} {after} {i} g limit mask mode d =
    let s = alter_thread i (with_wait limit 0 mask mode) (view t rows) in
    off-after d g.thread (leave-placed i s (alter-placed i (with_wait limit 0 mask mode) (view t rows) (λ x. refl) g.whole.placed)) (leave_gone i s)
