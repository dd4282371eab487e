-- The answers that a call can have on a sound table beside done, in the order in which they are tested.
use Rattle.std.specs.Prelude.{List, [], ◌∷◌}
use Rattle.model.specs.declared.answers.Answer.TheVariants.{NoObject, BadNumber, Exists, NobodyRuns, SchedulingOff, WrongState, Full, Waits}
use Rattle.model.specs.Answers.{Given, ◌when◌}
use Rattle.rules.specs.declared.due.Due.{Due}

-- what is marked, the lowest number first
abbrev pub listed : Due → List Given
listed d =
    (NoObject when d.object)
    ∷ (BadNumber when d.number)
    ∷ (Exists when d.exists)
    ∷ (NobodyRuns when d.nobody)
    ∷ (SchedulingOff when d.off)
    ∷ (WrongState when d.state)
    ∷ (Full when d.full)
    ∷ (Waits when d.waits)
    ∷ []
