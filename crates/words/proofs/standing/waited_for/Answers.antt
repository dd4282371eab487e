-- A list has a first exactly where it isn't empty.
use mathlib.Core.Path.{ap, ◌∙◌}
use mathlib.Core.Bool.{not}
use Prim.Native.Nat.{ℕ}
use lib.Dec.{eqb}
use Rattle.model.specs.Parts.{list}
use Rattle.model.specs.Layout.{view}
use Rattle.words.proofs.Firsts.{some_linked}
use Rattle.words.proofs.standing.waited_for.Goals as goal

pub returns : goal.returns
returns c =
    let a = c.args in
    ap (λ (x : ℕ). not (eqb x 0)) c.first_of.ensures ∙ some_linked (list a.j (view a.image.now))
