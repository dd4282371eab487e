-- The modes of a wait and the kinds of a timer's action that src/ names, by their numbers.
use Rattle.std.specs.Prelude.{◌≡◌, ℕ, ◌<◌, Result, MatchResult}
use Rattle.model.specs.declared.modes.Mode.{Mode}
use Rattle.model.specs.declared.modes.Mode.TheVariants.{AnySet, AllSet, AnyClear, AllClear}
use Rattle.model.specs.declared.modes.NoSuchMode.{NoSuchMode}
use Rattle.model.specs.declared.actions.Action.{Action}
use Rattle.model.specs.declared.actions.Action.TheVariants.{Nothing, Post, SetFlags}
use Rattle.model.specs.declared.actions.NoSuchAction.{NoSuchAction}

-- a mode's number, and the mode with this number, or an error where it is no mode's
abbrev pub mode_number : Mode → ℕ
mode_number AnySet = 0
mode_number AllSet = 1
mode_number AnyClear = 2
mode_number AllClear = 3

abbrev pub NamesMode : ℕ → Result Mode NoSuchMode → Type 0
NamesMode n r = MatchResult r (λ m. mode_number m ≡ n) (λ _. 3 < n)

-- the same for the kind of an action
abbrev pub action_number : Action → ℕ
action_number Nothing = 0
action_number Post = 1
action_number SetFlags = 2

abbrev pub NamesAction : ℕ → Result Action NoSuchAction → Type 0
NamesAction n r = MatchResult r (λ a. action_number a ≡ n) (λ _. 2 < n)
