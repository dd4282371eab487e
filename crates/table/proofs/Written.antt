-- A thread's record changed where it stands, its current priority kept: nobody moves, and the record is read as it was written.
use mathlib.Core.Path.{◌≡◌, sym}
use Prim.Native.Nat.{ℕ}
use native.Mathlib.Omega.{arith}
use lib.ListN.{set}
use lib.Seq.{get_or-set_same}
use Rattle.model.specs.declared.tables.Thread.{Thread}
use Rattle.model.specs.declared.tables.Table.{Table}
use Rattle.model.specs.State.{absent_thread}
use Rattle.model.specs.Parts.{alter_thread}
use Rattle.model.specs.Before as layout
use Rattle.model.specs.Before.{view, thread_at}
use Rattle.placed.proofs.Standing.{alter-placed}
use Rattle.table.specs.Orderly.{Given, Does}
use Rattle.table.proofs.Rooms.{given-after}
use Rattle.table.proofs.Views.{table-threads, changed_thread, does}

abbrev pub written : ℕ → (Thread → Thread) → Table → Table
written i g t = table-threads (set t.threads i (g (thread_at t.threads i))) t

module _ {t : Table} {rows : layout.Rows} {i : ℕ} (w : Given t rows i) (g : Thread → Thread) where
  pub read_again : g (thread_at t.threads i) ≡ thread_at (written i g t).threads i
  read_again =
      sym
      (get_or-set_same t.threads i (g (thread_at t.threads i)) absent_thread
      (omega (arith, w.thread, w.whole.order.table.threads)))

  pub writes : Does t rows (alter_thread i g) (written i g t) rows
  writes = does rows w.whole.order (changed_thread t w.whole.order.table i g)

  pub written_given : ((x : Thread) → (g x).current ≡ x.current) → Given (written i g t) rows i
  written_given kept = given-after writes w.thread (alter-placed i g (view t rows) kept w.whole.placed)
