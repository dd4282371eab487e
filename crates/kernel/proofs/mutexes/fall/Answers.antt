-- The base priority read is the model's.
use mathlib.Core.Path.{ap}
use Rattle.model.specs.declared.tables.Thread.{Thread}
use Rattle.model.specs.Words.{take_priority}
use Rattle.model.specs.Effects.{fall}
use Rattle.model.specs.Before.{view}
use Rattle.table.proofs.Views.{same_word}
use Rattle.kernel.proofs.mutexes.fall.Goals as goal

pub returns : goal.returns
unfolding fall view
returns c =
    let i = c.args.i in
    let v = view c.args.t c.args.rows.now in
    same_word (fall i) c.take_priority.ensures (ap (λ (x : Thread). take_priority i x.base v) c.thread-x.ensures)
