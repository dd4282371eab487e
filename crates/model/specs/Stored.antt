-- Words in which the demands are told of tables as they are stored: what the contracts of the code speak of. A call is `call-table`.
use Rattle.std.specs.Prelude.{Bool, true, false, ℕ, zero, suc, ◌+◌}
use Rattle.model.specs.declared.tables.Table.{Table}
use Rattle.model.specs.declared.answers.Answer.TheVariants.{Done, Unsound}
use Rattle.model.specs.declared.answers.Report.{Report}
use Rattle.model.specs.declared.requests.Request.{Request}
use Rattle.model.specs.State.{State}
use Rattle.model.specs.Answers.{report}
use Rattle.model.specs.Time.{next}
use Rattle.model.specs.Before.{Rows, view, sound_table, Laid, call_table}
use Rattle.model.specs.Promises.{advancing}

-- ---- a table with its rows

pub record Stored : Type 0 where
  pub table : Table
  pub rows : Rows

abbrev pub seen : Stored → State
seen k = view k.table k.rows

abbrev pub is_sound : Stored → Bool
is_sound k = sound_table k.table k.rows

-- ---- a call on it, and what that hands back

abbrev pub called : Stored → Request → Laid
called k q = call_table k.table k.rows q

abbrev pub told : Stored → Request → Report
told k q = (called k q).reply.report

abbrev pub kept : Stored → Request → Stored
kept k q = record { table = (called k q).reply.table; rows = (called k q).rows }

-- n calls, each of which advances by 1 what the one before it handed back; and the wake-ups that they report together
unfoldable pub singly : ℕ → Stored → Stored
singly zero k = k
singly (suc n) k = singly n (kept k (advancing 1))

unfoldable pub singly_told : ℕ → Stored → ℕ
singly_told zero k = 0
singly_told (suc n) k = (told k (advancing 1)).wakeups + singly_told n (kept k (advancing 1))

-- ---- the next wake-up asked for by itself

-- what is reported of a table that stays as it is: refusal 1 where it isn't sound
unfoldable pub next_told_by : Bool → State → Report
next_told_by true s = report Done s 0 (next s)
next_told_by false s = report Unsound s 0 0

unfoldable pub next_told : Table → Rows → Report
next_told t rows = next_told_by (sound_table t rows) (view t rows)
