-- A ready list is as long as stands beside its row, so the code's test is the model's, of the record that the id names.
use mathlib.Core.Path.{◌≡◌, ap}
use mathlib.Core.Bool.{Bool, true, false, cond, ◌&&◌}
use Prim.Native.Nat.{ℕ}
use lib.Dec.{eqb, ltb, leb}
use lib.ListN.{get_or}
use Rattle.rows.proofs.Rows.{length_read}
use Rattle.model.specs.declared.tables.Thread.{Thread}
use Rattle.model.specs.declared.tables.Table.{Table}
use Rattle.model.specs.Parts.{thread}
use Rattle.model.specs.Tick.{quantum_counts}
use Rattle.model.specs.Before as layout
use Rattle.model.specs.Before.{view, thread_at}
use Rattle.table.specs.Orderly.{Orderly}
use Rattle.kernel.proofs.next.quantum_left.Goals as goal

module _ {t : Table} {rows : layout.Rows} (w : Orderly t rows) where
  same_test : quantum_counts (view t rows)
      ≡ eqb t.off 0 && ltb 0 (thread_at t.threads t.chosen).quantum && leb 2 (get_or t.lengths (thread_at t.threads t.chosen).current 0)
  unfolding quantum_counts view
  same_test =
      let x = thread_at t.threads t.chosen in
      ap (λ (n : ℕ). eqb t.off 0 && ltb 0 x.quantum && leb 2 n) (length_read w.ready x.current)

  left-by-test : (b : Bool) (x : Thread) → x ≡ thread_at t.threads t.chosen → {shared : Bool} → shared ≡ leb 2 (get_or t.lengths x.current 0)
      → eqb t.off 0 && ltb 0 x.quantum && shared ≡ b
      → cond b x.left 0 ≡ cond (quantum_counts (view t rows)) (thread t.chosen (view t rows)).left 0
  unfolding view
  left-by-test b x e s h = rw (same_test, ← e, ← s, h)

pub returns-then-t-x : goal.returns-then-t-x
returns-then-t-x c rows w =
    let x = c.thread-x in
    left-by-test w true x.result x.ensures c.is_shared.ensures c.if-t-x.true

pub returns-else-t-x : goal.returns-else-t-x
returns-else-t-x c rows w =
    let x = c.thread-x in
    left-by-test w false x.result x.ensures c.is_shared.ensures c.if-t-x.false
