-- What a timer's action may assume: it names an object that there is room for. Every timer of a sound table is so.
use Rattle.std.specs.Prelude.{◌≡◌, ℕ, ◌<◌, ◌≤◌, slice_index_or}
use Rattle.model.specs.declared.tables.Timer.{Timer}
use Rattle.model.specs.declared.tables.Table.{Table}
use Rattle.model.specs.State.{unused_timer, semaphore_count, flags_count}

pub record Aimed (x : Timer) : Type 0 where
  pub posts : x.kind ≡ 1 → x.object < semaphore_count
  pub sets : 2 ≤ x.kind → x.object < flags_count

abbrev pub Armed : Table → Type 0
Armed t = (o : ℕ) → Aimed (slice_index_or t.timers o unused_timer)
