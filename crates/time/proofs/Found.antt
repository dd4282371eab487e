-- What the walks of a leap found, with the quantum of who is chosen then, is the next wake-up of the table after it.
use Rattle.std.proofs.Common.{◌≡◌, ℕ, sym, ap, ◌∙◌, ap₂}
use Rattle.sequences.specs.Lists.{nearest, nearer}
use Rattle.sequences.specs.Steps.{in_order}
use Rattle.model.specs.declared.tables.Table.{Table}
use Rattle.model.specs.State.{State, thread_count}
use Rattle.model.specs.Words.{choose}
use Rattle.model.specs.Time.{next}
use Rattle.model.specs.Before as layout
use Rattle.model.specs.Before.{view}
use Rattle.table.specs.Orderly.{Does}
use Rattle.theorems.specs.Leap.{limit_leap}
use Rattle.theorems.proofs.Skips.{running, times, limits}
use Rattle.theorems.proofs.LeapKeeps.{next_walked}

-- each number by what it was found to be
module _ {t u r : Table} {rows after : layout.Rows} (gap : ℕ) (walk : Does t rows (in_order thread_count (limit_leap gap)) u after) (chosen : Does u after choose r after) where
  seen : view r after ≡ choose (in_order thread_count (limit_leap gap) (view t rows))
  seen = chosen.view ∙ ap choose walk.view

  pub next_found : {timer both left : ℕ} → timer ≡ nearest (times (view t rows)) → both ≡ nearer timer (nearest (limits (view u after)))
      → left ≡ running (view r after) → nearer left both ≡ next (view r after)
  next_found e f g =
      ap₂ nearer g (f ∙ ap (λ (n : ℕ). nearer n (nearest (limits (view u after)))) e)
      ∙ ap₂ (λ (x y : State). nearer (running x) (nearer (nearest (times (view t rows))) (nearest (limits y)))) seen walk.view
      ∙ next_walked gap (view t rows)
      ∙ ap next (sym seen)
