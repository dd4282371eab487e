-- A new current priority between leaving and entering again is the model's change and then its move.
use mathlib.Core.Path.{◌≡◌}
use mathlib.Core.Bool.{true, false}
use Prim.Native.Nat.{ℕ, ◌<◌}
use native.Mathlib.Omega.{arith}
use Rattle.model.specs.declared.tables.Table.{Table}
use Rattle.model.specs.State.{State}
use Rattle.model.specs.Parts.{alter_thread, with_current}
use Rattle.model.specs.Words.{is_ready, is_waiting, list_of, leave, become_ready, enter_ready, enter_by_priority, re_enter}
use Rattle.model.specs.Before as layout
use Rattle.model.specs.Before.{view}
use Rattle.placed.proofs.Standing.{leave_gone, leave-placed, unready_placed}
use Rattle.table.specs.Orderly.{Given, Meets, Does}
use Rattle.table.proofs.Rooms.{Off, off-after}
use Rattle.table.proofs.Views.{does, and_then}

-- ---- the model's move, by where the thread stands

module _ (i p : ℕ) (s : State) where
  abbrev changed : State
  changed = alter_thread i (with_current p) s

  pub re_enter-ready : is_ready i s ≡ true → enter_ready i (alter_thread i (with_current p) (leave i s)) ≡ re_enter i changed
  unfolding re_enter become_ready leave
  re_enter-ready h = rw h

  pub re_enter_waiting : is_ready i s ≡ false → is_waiting i s ≡ true → enter_by_priority (list_of i s) i (alter_thread i (with_current p) (leave i s)) ≡ re_enter i changed
  unfolding re_enter leave
  re_enter_waiting h k = rw (h, k)

  pub re_enter_other : is_ready i s ≡ false → is_waiting i s ≡ false → changed ≡ re_enter i changed
  unfolding re_enter
  re_enter_other h k = rw (h, k)

-- ---- the table in between: the thread is off all lists, with its new priority

pub retaken_off : {t u v : Table} {rows after : layout.Rows} {i : ℕ} → Given t rows i → (p : ℕ) → p < 8 → Does t rows (leave i) u after → Meets u (alter_thread i (with_current p)) v → Off v after i
retaken_off {t} {u} {v} {rows} {after} {i} g p below d m =
    let s = view t rows in
    off-after (and_then d (does after d.order m)) g.thread
    (unready_placed i (with_current p) (leave i s) below (omega (arith, leave_gone i s)) (leave-placed i s g.whole.placed))
    (leave_gone i s)
