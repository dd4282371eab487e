-- The busy table as it is stored: sound there too, and refused where a list is out of order. Row 3 has two ids,
-- list 2 two, row 0 none.
use Rattle.std.specs.Prelude.{Bool, not, List, [], ◌∷◌, ℕ, set}
use Rattle.sequences.specs.Lists.{alter}
use Rattle.model.specs.declared.tables.Table.{Table}
use Rattle.model.specs.declared.tables.IdList.{IdList}
use Rattle.model.specs.Before.{Rows, lay_table, lay_rows, sound_table}
use Rattle.examples.specs.Busy.{busy}

pub record Stored : Type 0 where
  pub table : Table
  pub rows : Rows

-- the table with other lengths of the ready lists, or another list 2
abbrev pub relaid : List ℕ → (IdList → IdList) → Table → Table
relaid lengths g t =
    record { clock = t.clock; off = t.off; chosen = t.chosen; threads = t.threads; semaphores = t.semaphores; mutexes = t.mutexes; flags = t.flags; timers = t.timers; lengths = lengths; waits = alter 2 g t.waits }

unfoldable pub disorders : List Stored
disorders =
    -- an id past the end of a row, and past the end of a list
    record { table = lay_table busy; rows = alter 3 (λ r. set r 2 9) (lay_rows busy) }
    ∷ record { table = relaid (lay_table busy).lengths (λ l. record { length = l.length; ids = set l.ids 15 9 }) (lay_table busy); rows = lay_rows busy }
    -- a length of more than sixteen
    ∷ record { table = relaid (set (lay_table busy).lengths 0 17) (λ l. l) (lay_table busy); rows = lay_rows busy }
    ∷ record { table = relaid (lay_table busy).lengths (λ l. record { length = 17; ids = l.ids }) (lay_table busy); rows = lay_rows busy }
    ∷ []

unfoldable pub refused_stored : Stored → Bool
refused_stored x = not (sound_table x.table x.rows)
