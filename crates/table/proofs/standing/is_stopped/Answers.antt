-- The stopped list, searched.
use mathlib.Core.Path.{sym, ◌∙◌, ap}
use mathlib.Core.List.{List}
use Prim.Native.Nat.{ℕ}
use Rattle.sequences.specs.Lists.{among}
use Rattle.table.proofs.Views.{list-view}
use Rattle.table.proofs.standing.is_stopped.Goals as goal

pub returns : goal.returns
returns c rows =
    c.holds_id.ensures ∙ ap (λ (l : List ℕ). among c.args.i l) (sym (list-view c.args.t rows 1))
