-- One step of waking those of a wait list whose condition holds, as the code takes it.
use Rattle.std.specs.Prelude.{cond, ℕ}
use Rattle.model.specs.State.{State}
use Rattle.model.specs.Parts.{thread, alter_thread, with_delivered}
use Rattle.model.specs.Words.{holds, wake}

-- thread i is delivered the word and woken, where its condition holds of it
unfoldable pub wake_met : ℕ → ℕ → State → State
wake_met word i s = cond (holds (thread i s).mode (thread i s).mask word) (wake i 1 (alter_thread i (with_delivered word) s)) s
