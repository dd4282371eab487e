-- A table after one store is the model's state after one change; and changes one after another.
use mathlib.Core.Path.{◌≡◌, refl, sym, ◌∙◌, ap, subst}
use mathlib.Core.List.{List, []}
use Prim.Native.Nat.{ℕ, ◌<◌, ◌≤◌}
use native.Mathlib.Omega.{arith}
use lib.Dec.{ltb}
use lib.ListN.{length, set, length-set, get_or-map}
use Rattle.sequences.specs.Lists.{alter}
use Rattle.sequences.proofs.Places.{alter-set, map-alter, every_set}
use Rattle.sequences.proofs.Searches.{first_at-most}
use Rattle.rows.specs.Row.{Row, Rows, Changed}
use Rattle.rows.proofs.Rows.{length_held}
use Rattle.model.specs.declared.tables.Thread.{Thread}
use Rattle.model.specs.declared.tables.Semaphore.{Semaphore}
use Rattle.model.specs.declared.tables.Mutex.{Mutex}
use Rattle.model.specs.declared.tables.Flags.{Flags}
use Rattle.model.specs.declared.tables.Timer.{Timer}
use Rattle.model.specs.declared.tables.IdList.{IdList}
use Rattle.model.specs.declared.tables.Table.{Table}
use Rattle.model.specs.State.{State, absent_thread, absent_semaphore, absent_mutex, absent_flags, unused_timer}
use Rattle.model.specs.Parts.{thread, list, with_threads, with_semaphores, with_mutexes, with_flags, with_timers, with_waits, with_ready}
use Rattle.model.specs.Parts.{with_chosen, alter_thread, alter_semaphore, alter_mutex, alter_flags, alter_timer}
use Rattle.model.specs.Words.{rank}
use Rattle.model.specs.Before as layout
use Rattle.model.specs.Before.{view, ids_of, no_ids, list_at, thread_at}
use Rattle.table.specs.Orderly.{Listed, OrderlyTable, Orderly, Meets, Does}

-- ---- the table with one part anew

abbrev pub table-chosen : ℕ → Table → Table
table-chosen x t = record { clock = t.clock; off = t.off; chosen = x; threads = t.threads; semaphores = t.semaphores; mutexes = t.mutexes; flags = t.flags; timers = t.timers; lengths = t.lengths; waits = t.waits }

abbrev pub table-threads : List Thread → Table → Table
table-threads x t = record { clock = t.clock; off = t.off; chosen = t.chosen; threads = x; semaphores = t.semaphores; mutexes = t.mutexes; flags = t.flags; timers = t.timers; lengths = t.lengths; waits = t.waits }

abbrev pub table-semaphores : List Semaphore → Table → Table
table-semaphores x t = record { clock = t.clock; off = t.off; chosen = t.chosen; threads = t.threads; semaphores = x; mutexes = t.mutexes; flags = t.flags; timers = t.timers; lengths = t.lengths; waits = t.waits }

abbrev pub table-mutexes : List Mutex → Table → Table
table-mutexes x t = record { clock = t.clock; off = t.off; chosen = t.chosen; threads = t.threads; semaphores = t.semaphores; mutexes = x; flags = t.flags; timers = t.timers; lengths = t.lengths; waits = t.waits }

abbrev pub table-flags : List Flags → Table → Table
table-flags x t = record { clock = t.clock; off = t.off; chosen = t.chosen; threads = t.threads; semaphores = t.semaphores; mutexes = t.mutexes; flags = x; timers = t.timers; lengths = t.lengths; waits = t.waits }

abbrev pub table-timers : List Timer → Table → Table
table-timers x t = record { clock = t.clock; off = t.off; chosen = t.chosen; threads = t.threads; semaphores = t.semaphores; mutexes = t.mutexes; flags = t.flags; timers = x; lengths = t.lengths; waits = t.waits }

abbrev pub table-waits : List IdList → Table → Table
table-waits x t = record { clock = t.clock; off = t.off; chosen = t.chosen; threads = t.threads; semaphores = t.semaphores; mutexes = t.mutexes; flags = t.flags; timers = t.timers; lengths = t.lengths; waits = x }

abbrev pub table-lengths : List ℕ → Table → Table
table-lengths x t = record { clock = t.clock; off = t.off; chosen = t.chosen; threads = t.threads; semaphores = t.semaphores; mutexes = t.mutexes; flags = t.flags; timers = t.timers; lengths = x; waits = t.waits }

-- ---- what the view says of a list

module _ (t : Table) (rows : layout.Rows) where
  pub list-view : (j : ℕ) → list j (view t rows) ≡ ids_of (list_at t.waits j)
  unfolding view
  list-view j = get_or-map ids_of t.waits j no_ids

-- a place by rank is within the list
pub rank-at-most : (t : Table) (i j : ℕ) {k : ℕ} → Row 16 (list_at t.waits j).ids (list_at t.waits j).length → k ≡ rank j i (view t []) → k ≤ (list_at t.waits j).length
unfolding rank
rank-at-most t i j row e =
    let s = view t [] in
    rw e (omega (arith, first_at-most (λ x. ltb (thread x s).current (thread i s).current) (list j s), ap length (list-view t [] j), length_held row))

-- ---- one store

module _ (t : Table) (w : OrderlyTable t) where
  pub stored_chosen : (c : ℕ) → Meets t (with_chosen c) (table-chosen c t)
  unfolding view
  stored_chosen c = record { order = w; lengths = refl; view = λ rows. refl }

  -- the record that stands there, changed; and any other in its place
  pub changed_thread : (i : ℕ) (g : Thread → Thread)
      → Meets t (alter_thread i g) (table-threads (set t.threads i (g (thread_at t.threads i))) t)
  unfolding view
  changed_thread i g =
      record {
        order =
            record {
              threads = length-set t.threads i (g (thread_at t.threads i)) ∙ w.threads;
              semaphores = w.semaphores;
              mutexes = w.mutexes;
              flags = w.flags;
              timers = w.timers;
              waits = w.waits;
              lists = w.lists;
            };
        lengths = refl;
        view = λ rows. ap (λ (l : List Thread). with_threads l (view t rows)) (alter-set g absent_thread t.threads i);
      }

  pub stored_thread : (i : ℕ) (x : Thread) → Meets t (alter_thread i (λ _. x)) (table-threads (set t.threads i x) t)
  stored_thread i x = changed_thread i (λ _. x)

  pub stored_semaphore : (o : ℕ) (x : Semaphore) → Meets t (alter_semaphore o (λ _. x)) (table-semaphores (set t.semaphores o x) t)
  unfolding view
  stored_semaphore o x =
      record {
        order = record { threads = w.threads; semaphores = length-set t.semaphores o x ∙ w.semaphores; mutexes = w.mutexes; flags = w.flags; timers = w.timers; waits = w.waits; lists = w.lists };
        lengths = refl;
        view = λ rows. ap (λ (l : List Semaphore). with_semaphores l (view t rows)) (alter-set (λ (y : Semaphore). x) absent_semaphore t.semaphores o);
      }

  pub stored_mutex : (o : ℕ) (x : Mutex) → Meets t (alter_mutex o (λ _. x)) (table-mutexes (set t.mutexes o x) t)
  unfolding view
  stored_mutex o x =
      record {
        order = record { threads = w.threads; semaphores = w.semaphores; mutexes = length-set t.mutexes o x ∙ w.mutexes; flags = w.flags; timers = w.timers; waits = w.waits; lists = w.lists };
        lengths = refl;
        view = λ rows. ap (λ (l : List Mutex). with_mutexes l (view t rows)) (alter-set (λ (y : Mutex). x) absent_mutex t.mutexes o);
      }

  pub stored_flags : (o : ℕ) (x : Flags) → Meets t (alter_flags o (λ _. x)) (table-flags (set t.flags o x) t)
  unfolding view
  stored_flags o x =
      record {
        order = record { threads = w.threads; semaphores = w.semaphores; mutexes = w.mutexes; flags = length-set t.flags o x ∙ w.flags; timers = w.timers; waits = w.waits; lists = w.lists };
        lengths = refl;
        view = λ rows. ap (λ (l : List Flags). with_flags l (view t rows)) (alter-set (λ (y : Flags). x) absent_flags t.flags o);
      }

  pub stored_timer : (o : ℕ) (x : Timer) → Meets t (alter_timer o (λ _. x)) (table-timers (set t.timers o x) t)
  unfolding view
  stored_timer o x =
      record {
        order = record { threads = w.threads; semaphores = w.semaphores; mutexes = w.mutexes; flags = w.flags; timers = length-set t.timers o x ∙ w.timers; waits = w.waits; lists = w.lists };
        lengths = refl;
        view = λ rows. ap (λ (l : List Timer). with_timers l (view t rows)) (alter-set (λ (y : Timer). x) unused_timer t.timers o);
      }

  pub stored_list : (j : ℕ) → j < 18 → (l : IdList) (g : List ℕ → List ℕ) → Listed l (g (ids_of (list_at t.waits j)))
      → Meets t (λ s. with_waits (alter j g s.waits) s) (table-waits (set t.waits j l) t)
  unfolding view
  stored_list j h l g e =
      record {
        order =
            record {
              threads = w.threads;
              semaphores = w.semaphores;
              mutexes = w.mutexes;
              flags = w.flags;
              timers = w.timers;
              waits = length-set t.waits j l ∙ w.waits;
              lists = every_set (λ (l : IdList). Row 16 l.ids l.length) no_ids t.waits 18 j l (omega (arith, w.waits)) e.row w.lists;
            };
        lengths = refl;
        view = λ rows. ap (λ (l : List (List ℕ)). with_waits l (view t rows)) (map-alter ids_of g t.waits j l no_ids e.list);
      }

-- a row stored with its length
pub stored_row : {t : Table} {rows : layout.Rows} → Orderly t rows → {p n : ℕ} {g : List ℕ → List ℕ} {after : layout.Rows} → Changed 16 8 rows t.lengths p n g after
    → Does t rows (λ s. with_ready (alter p g s.ready) s) (table-lengths (set t.lengths p n) t) after
unfolding view
stored_row {t} {rows} w e =
    record {
      order = record { table = w.table; ready = e.order };
      view = ap (λ (l : List (List ℕ)). with_ready l (view t rows)) e.lists;
    }

-- ---- one change after another

pub then : {t r s : Table} {f g : State → State} → Meets t f r → Meets r g s → Meets t (λ x. g (f x)) s
then {g = g} a b =
    record { order = b.order; lengths = b.lengths ∙ a.lengths; view = λ rows. b.view rows ∙ ap g (a.view rows) }

-- the model's word by another way, and by none
pub meets_word : {t r : Table} {f : State → State} (g : State → State) → Meets t f r → ((rows : layout.Rows) → f (view t rows) ≡ g (view t rows)) → Meets t g r
meets_word g a e = record { order = a.order; lengths = a.lengths; view = λ rows. a.view rows ∙ e rows }

pub untouched : {t : Table} (g : State → State) → OrderlyTable t → ((rows : layout.Rows) → view t rows ≡ g (view t rows)) → Meets t g t
untouched g w e = record { order = w; lengths = refl; view = e }

pub does : {t r : Table} {f : State → State} (rows : layout.Rows) → Orderly t rows → Meets t f r → Does t rows f r rows
does rows w m =
    record {
      order = record { table = m.order; ready = subst (λ (l : List ℕ). Rows 16 8 rows l) (sym m.lengths) w.ready };
      view = m.view rows;
    }

pub and_then : {t r s : Table} {rows after last : layout.Rows} {f g : State → State} → Does t rows f r after → Does r after g s last → Does t rows (λ x. g (f x)) s last
and_then {g = g} a b = record { order = b.order; view = b.view ∙ ap g a.view }

pub same_word : {t r : Table} {rows after : layout.Rows} {f : State → State} (g : State → State) → Does t rows f r after → f (view t rows) ≡ g (view t rows) → Does t rows g r after
same_word g a e = record { order = a.order; view = a.view ∙ e }
