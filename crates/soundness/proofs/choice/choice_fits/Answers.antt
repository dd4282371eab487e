-- The two tests of the model, by whether scheduling is on.
use mathlib.Core.Path.{◌≡◌}
use mathlib.Core.Bool.{Bool, ◌||◌}
use Prim.Native.Nat.{ℕ}
use borrow.Author.Tests.{ne_eqb}
use lib.Dec.{eqb}
use Rattle.model.specs.State.{State, nobody}
use Rattle.model.specs.Sound.{choice_fits}
use Rattle.model.specs.Before.{view}
use Rattle.model.specs.Words.{choice, is_ready}
use Rattle.soundness.proofs.choice.choice_fits.Goals as goal

fits_on : (s : State) {best : ℕ} → s.off ≡ 0 → best ≡ choice s → eqb s.chosen best ≡ choice_fits s
unfolding choice_fits
fits_on s on e = rw (on, e)

fits-off : (s : State) {ready : Bool} → (s.off ≡ 0 → ⊥) → ready ≡ is_ready s.chosen s → eqb s.chosen nobody || ready ≡ choice_fits s
unfolding choice_fits
fits-off s off e = rw (ne_eqb s.off 0 off, e)

pub returns-then-t-eq0 : goal.returns-then-t-eq0
unfolding view
returns-then-t-eq0 c =
    let a = c.args in
    fits_on (view a.t a.rows) c.if-t-eq0.true c.choice-best.ensures

pub returns-else-t-eq0 : goal.returns-else-t-eq0
unfolding view
returns-else-t-eq0 c =
    let a = c.args in
    fits-off (view a.t a.rows) c.if-t-eq0.false c.on_ready_list-ready.ensures
