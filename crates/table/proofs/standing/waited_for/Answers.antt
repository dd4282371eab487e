-- A list's length is the number of its ids.
use mathlib.Core.Path.{sym, ◌∙◌, ap}
use Prim.Native.Nat.{ℕ}
use lib.Dec.{ltb}
use lib.ListN.{length}
use Rattle.rows.proofs.Rows.{length_held}
use Rattle.table.proofs.Views.{list-view}
use Rattle.table.proofs.standing.waited_for.Goals as goal

pub returns : goal.returns
returns c rows =
    let a = c.args in
    ap (λ (n : ℕ). ltb 0 n) (sym (length_held (c.requires.orderly_table.lists a.j c.requires.j_bound)) ∙ ap length (sym (list-view a.t rows a.j)))
