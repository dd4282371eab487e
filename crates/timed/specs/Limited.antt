-- Who has a limit stands on a list that is no ready list. Every table that is sound is so, and stays so from step to step.
use Rattle.std.specs.Prelude.{ℕ, ◌<◌}
use Rattle.sequences.specs.Lists.{count_all}
use Rattle.model.specs.State.{State}
use Rattle.model.specs.Parts.{thread}

abbrev pub Limited : State → Type 0
Limited s = (i : ℕ) → 0 < (thread i s).limit → 0 < count_all i s.waits
