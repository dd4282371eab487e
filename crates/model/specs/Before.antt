-- How the table stands in its struct, with the ready rows beside it: reading it as plain lists, laying lists out again, and what
-- only the layout can break. `sound-table` is the whole of 01's soundness for a table as it is stored.
use Rattle.std.specs.Prelude.{Bool, true, false, ◌&&◌, List, [], ◌∷◌, map, ℕ, eqb, leb, length, take, drop, get_or}
use Rattle.sequences.specs.Lists.{padded, take_each, every, all_true, all_zero}
use Rattle.model.specs.declared.tables.Thread.{Thread}
use Rattle.model.specs.declared.tables.IdList.{IdList}
use Rattle.model.specs.declared.tables.Table.{Table}
use Rattle.model.specs.declared.requests.Request.{Request}
use Rattle.model.specs.declared.answers.Answer.TheVariants.{Unsound}
use Rattle.model.specs.declared.answers.Reply.{Reply}
use Rattle.model.specs.State.{State, places, priority_count, absent_thread, fresh}
use Rattle.model.specs.Sound.{each_priority, shaped, sound}
use Rattle.model.specs.Answers.{report}
use Rattle.model.specs.Kernel.{Outcome, call}

abbrev pub Rows : Type 0
Rows = List (List ℕ)

-- ---- reading

abbrev pub ids_of : IdList → List ℕ
ids_of l = take l.length l.ids

-- what stands for a list where there is none
abbrev pub no_ids : IdList
no_ids = record { length = 0; ids = [] }

-- one list, and one thread's record, of the arrays that hold them
abbrev pub list_at : List IdList → ℕ → IdList
list_at waits j = get_or waits j no_ids

abbrev pub thread_at : List Thread → ℕ → Thread
thread_at threads i = get_or threads i absent_thread

unfoldable pub view : Table → Rows → State
view t rows =
    record {
      clock = t.clock;
      off = t.off;
      chosen = t.chosen;
      threads = t.threads;
      semaphores = t.semaphores;
      mutexes = t.mutexes;
      flags = t.flags;
      timers = t.timers;
      ready = take_each t.lengths rows;
      waits = map ids_of t.waits;
    }

-- ---- laying out, with zeros past each end

abbrev pub laid_list : List ℕ → IdList
laid_list l = record { length = length l; ids = padded places l }

unfoldable pub lay_table : State → Table
lay_table s =
    record {
      clock = s.clock;
      off = s.off;
      chosen = s.chosen;
      threads = s.threads;
      semaphores = s.semaphores;
      mutexes = s.mutexes;
      flags = s.flags;
      timers = s.timers;
      lengths = map (λ (l : List ℕ). length l) s.ready;
      waits = map laid_list s.waits;
    }

unfoldable pub lay_rows : State → Rows
lay_rows s = map (padded places) s.ready

-- ---- what only the layout can break

-- 01, The table, on a list's room and on the places past its end
abbrev pub row_orderly : ℕ → List ℕ → Bool
row_orderly n ids = eqb (length ids) places && leb n places && all_zero (drop n ids)

-- the arrays have their lengths, and so have the lists in them
unfoldable pub orderly : Table → Rows → Bool
orderly t rows =
    all_true
    (shaped (view t rows)
    ∷ eqb (length t.lengths) priority_count
    ∷ eqb (length rows) priority_count
    ∷ each_priority (λ p. row_orderly (get_or t.lengths p 0) (get_or rows p []))
    ∷ every (λ (l : IdList). row_orderly l.length l.ids) t.waits
    ∷ [])

-- ---- the whole

unfoldable pub sound_table : Table → Rows → Bool
sound_table t rows = orderly t rows && sound (view t rows)

-- a call on a stored table: what it hands back, and the rows beside that
pub record Laid : Type 0 where
  pub reply : Reply
  pub rows : Rows

abbrev pub laid : Outcome → Laid
laid o = record { reply = record { report = o.report; table = lay_table o.after }; rows = lay_rows o.after }

-- a sound table: the call, laid out; any other: refusal 1, and every field as it was
unfoldable pub call_by : Bool → Table → Rows → Request → Laid
call_by true t rows q = laid (call (view t rows) q)
call_by false t rows q = record { reply = record { report = report Unsound (view t rows) 0 0; table = t }; rows = rows }

unfoldable pub call_table : Table → Rows → Request → Laid
call_table t rows q = call_by (sound_table t rows) t rows q

unfoldable pub fresh_table : Table
fresh_table = lay_table fresh

unfoldable pub fresh_rows : Rows
fresh_rows = lay_rows fresh
