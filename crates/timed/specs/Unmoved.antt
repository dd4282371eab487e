-- Nothing that the choice or the running quantum goes by is another than before.
use Rattle.std.specs.Prelude.{◌≡◌, ℕ}
use Rattle.model.specs.State.{State}
use Rattle.model.specs.Parts.{thread}

pub record Unmoved (s after : State) : Type 0 where
  pub ready : after.ready ≡ s.ready
  pub off : after.off ≡ s.off
  pub chosen : after.chosen ≡ s.chosen
  pub current : (i : ℕ) → (thread i after).current ≡ (thread i s).current
  pub quantum : (i : ℕ) → (thread i after).quantum ≡ (thread i s).quantum
  pub left : (i : ℕ) → (thread i after).left ≡ (thread i s).left
