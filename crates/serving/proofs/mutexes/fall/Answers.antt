-- The base priority read is the model's.
use mathlib.Core.Path.{ap}
use Prim.Native.Nat.{ℕ}
use Rattle.model.specs.Words.{take_priority}
use Rattle.model.specs.Effects.{fall}
use Rattle.model.specs.Layout.{view}
use Rattle.words.proofs.Does.{same_word}
use Rattle.serving.proofs.mutexes.fall.Goals as goal

pub returns : goal.returns
unfolding fall
returns c =
    let a = c.args in
    same_word c.take_priority.ensures (fall a.i)
    (ap (λ (x : ℕ). take_priority a.i x (view a.image.now)) c.base-p.ensures)
