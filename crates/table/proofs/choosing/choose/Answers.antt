-- The code's test is the model's: scheduling on, and another choice than before. Where nobody is chosen there is no record to refill.
use mathlib.Core.Path.{◌≡◌, sym, ap}
use mathlib.Core.Bool.{true, false, not, ◌&&◌}
use mathlib.Core.List.{List}
use Prim.Native.Nat.{ℕ}
use native.Mathlib.Omega.{arith}
use lib.Dec.{eqb}
use Rattle.sequences.specs.Lists.{head_or, last_nonempty, take_each}
use Rattle.sequences.proofs.Places.{alter_out}
use Rattle.model.specs.declared.tables.Thread.{Thread}
use Rattle.model.specs.declared.tables.Table.{Table}
use Rattle.model.specs.State.{nobody}
use Rattle.model.specs.Parts.{with_threads, alter_thread, refilled}
use Rattle.model.specs.Before as layout
use Rattle.model.specs.Before.{view}
use Rattle.model.specs.Words.{choose}
use Rattle.table.specs.Orderly.{Orderly, Meets, Does}
use Rattle.table.proofs.Views.{table-chosen, changed_thread, stored_chosen, untouched, then, does, same_word}
use Rattle.table.proofs.choosing.choose.Goals as goal

-- n is the choice; u is the table with n's quantum renewed
module _ {t : Table} {rows : layout.Rows} (w : Orderly t rows) {n : ℕ}
    (e : n ≡ head_or (last_nonempty (take_each t.lengths rows)) nobody) where
  anew : {u : Table} → eqb t.off 0 && not (eqb n t.chosen) ≡ true → Meets t (alter_thread n refilled) u
      → Does t rows choose (table-chosen n u) rows
  unfolding choose view
  anew {u} another m = same_word choose (does rows w (then m (stored_chosen u m.order n))) (rw (← e, another))

  as_before : eqb t.off 0 && not (eqb n t.chosen) ≡ false → Does t rows choose t rows
  unfolding choose view
  as_before no_other = record { order = w; view = rw (← e, no_other) }

pub returns-then-c-lt16 : goal.returns-then-c-lt16
returns-then-c-lt16 c =
    let choice = c.choice-c in
    anew c.requires choice.ensures c.if-u-c.true (changed_thread c.args.t c.requires.table choice.result refilled)

pub returns-else-c-lt16 : goal.returns-else-c-lt16
unfolding view
returns-else-c-lt16 c =
    let t = c.args.t in
    let choice = c.choice-c in
    let n = choice.result in
    anew c.requires choice.ensures c.if-u-c.true
    (untouched (alter_thread n refilled) c.requires.table
    (λ rows.
    ap (λ (l : List Thread). with_threads l (view t rows))
    (sym (alter_out refilled n t.threads (omega (arith, c.requires.table.threads, c.if-c-lt16.false))))))

pub returns-else-u-c : goal.returns-else-u-c
returns-else-u-c c = as_before c.requires c.choice-c.ensures c.if-u-c.false
