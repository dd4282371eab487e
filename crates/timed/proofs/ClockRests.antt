-- Whatever fits the contract of a leap leaves the clock alone, so that a program that moves it with each leap doesn't fit: it is moved once, at the end.
use Rattle.std.proofs.Common.{◌≡◌, ℕ, List, ap, ◌∙◌}
use Rattle.model.specs.State.{State}
use Rattle.model.specs.Layout.{view}
use Rattle.words.specs.Images.{Does}
use Rattle.timed.specs.Ahead.{fall}
use Rattle.timed.proofs.LeapSkip.{fall-clock}

pub clock-moved_unfit : (gap ticks : ℕ) {b r : List ℕ} → ((view r).clock ≡ (view b).clock → ⊥) → Does b (fall gap ticks) r → ⊥
clock-moved_unfit gap ticks {b} moves d =
    moves (ap (λ (s : State). s.clock) d.view ∙ ap (λ (s : State). s.clock) (fall-clock gap ticks (view b).clock (view b)))
