-- A timer's action, and what it may assume: it names an object that there is room for. Every timer of a sound table is so.
use Rattle.std.specs.Prelude.{◌≡◌, ℕ, ◌<◌, ◌≤◌}
use Rattle.model.specs.declared.tables.Timer.{Timer}
use Rattle.model.specs.State.{State, semaphore_count, flags_count}
use Rattle.model.specs.Parts.{timer}
use Rattle.model.specs.Effects.{act}

-- what timer o does when it runs out
abbrev pub act_of : ℕ → State → State
act_of o s = act (timer o s).kind (timer o s).object (timer o s).mask s

pub record Aimed (x : Timer) : Type 0 where
  pub posts : x.kind ≡ 1 → x.object < semaphore_count
  pub sets : 2 ≤ x.kind → x.object < flags_count

abbrev pub Armed : State → Type 0
Armed s = (o : ℕ) → Aimed (timer o s)
