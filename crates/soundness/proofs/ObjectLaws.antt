-- What the passes over semaphores, mutexes and flag objects say of the model's state: each is the conjunction of the clauses of soundness
-- that speak of its objects. A pass tests every record in turn; its tests are sorted by columns, and each column is one clause.
use mathlib.Core.Path.{◌≡◌, sym, ◌∙◌, ap}
use mathlib.Core.Bool.{true}
use mathlib.Core.List.{List, [], ◌∷◌}
use Prim.Native.Nat.{ℕ, ◌+◌, ◌<◌}
use native.Mathlib.Omega.{arith}
use lib.ListN.{length, get_or}
use Rattle.sequences.specs.Lists.{every, every_below, all_true, among}
use Rattle.sequences.proofs.Tests.{every_below-at}
use Rattle.model.specs.declared.tables.Table.{Table}
use Rattle.model.specs.State.{absent_semaphore, absent_mutex, absent_flags}
use Rattle.model.specs.Parts.{semaphore, mutex, thread, flag_object, list}
use Rattle.model.specs.Sound.{semaphore_in_range, awaited_semaphores_empty, counts_within_maximum, absent_semaphores_zero}
use Rattle.model.specs.Sound.{mutex_in_range, unowned_written_zero, awaited_mutexes_owned, owners_created, owners_wait_elsewhere, absent_mutexes_zero}
use Rattle.model.specs.Sound.{flags_in_range, absent_flags_zero}
use Rattle.model.specs.Before.{Rows, ids_of, view, list_at, thread_at}
use Rattle.soundness.specs.Lists.{wait_list_fits}
use Rattle.soundness.specs.Records.{semaphore_fits, mutex_fits, flags_fit}
use Rattle.rows.proofs.Rows.{length_held}
use Rattle.table.proofs.Views.{list-view}
use Rattle.soundness.proofs.Fitting.{fitting}
use Rattle.sequences.proofs.Bounds.{every_by_columns}
use Rattle.soundness.specs.Shape.{Shape}

module _ (t : Table) (rows : Rows) (w : Shape t rows) (fit : every_below 18 (λ j. wait_list_fits (list_at t.waits j)) ≡ true) where
  pub list_length : (j : ℕ) → j < 18 → length (list j (view t rows)) ≡ (list_at t.waits j).length
  list_length j h =
      let l = list_at t.waits j in
      ap length (list-view t rows j) ∙ length_held (fitting l.length l.ids (every_below-at (λ j. wait_list_fits (list_at t.waits j)) 18 j h fit)).row

  pub semaphores_by_clauses : every_below 8 (λ o. semaphore_fits (get_or t.semaphores o absent_semaphore) (list_at t.waits (2 + o)).length)
      ≡ all_true
      (every semaphore_in_range (view t rows).semaphores
      ∷ awaited_semaphores_empty (view t rows)
      ∷ counts_within_maximum (view t rows)
      ∷ absent_semaphores_zero (view t rows)
      ∷ [])
  unfolding view semaphore_fits awaited_semaphores_empty counts_within_maximum absent_semaphores_zero
  semaphores_by_clauses =
      every_by_columns semaphore_in_range absent_semaphore t.semaphores 8 _ (_ ∷ _ ∷ _ ∷ []) w.semaphores
      (λ o h. ap (semaphore_fits (semaphore o (view t rows))) (sym (list_length (2 + o) (omega arith))))

  pub mutexes_by_clauses : every_below 4
      (λ o.
      mutex_fits (get_or t.mutexes o absent_mutex) (thread_at t.threads (get_or t.mutexes o absent_mutex).owner) (list_at t.waits (10 + o)).length
      (among (get_or t.mutexes o absent_mutex).owner (ids_of (list_at t.waits (10 + o)))))
      ≡ all_true
      (every mutex_in_range (view t rows).mutexes
      ∷ unowned_written_zero (view t rows)
      ∷ awaited_mutexes_owned (view t rows)
      ∷ owners_created (view t rows)
      ∷ owners_wait_elsewhere (view t rows)
      ∷ absent_mutexes_zero (view t rows)
      ∷ [])
  unfolding view mutex_fits unowned_written_zero awaited_mutexes_owned owners_created owners_wait_elsewhere absent_mutexes_zero
  mutexes_by_clauses =
      every_by_columns mutex_in_range absent_mutex t.mutexes 4 _ (_ ∷ _ ∷ _ ∷ _ ∷ _ ∷ []) w.mutexes
      (λ o h.
      let x = mutex o (view t rows) in
      let owner = thread x.owner (view t rows) in
      let l = list_at t.waits (10 + o) in
      ap (λ (n : ℕ). mutex_fits x owner n (among x.owner (ids_of l))) (sym (list_length (10 + o) (omega arith)))
      ∙ ap (λ (ids : List ℕ). mutex_fits x owner (length (list (10 + o) (view t rows))) (among x.owner ids)) (sym (list-view t rows (10 + o))))

  pub flags_by_clauses : every_below 4 (λ o. flags_fit (get_or t.flags o absent_flags) (list_at t.waits (14 + o)).length)
      ≡ all_true (every flags_in_range (view t rows).flags ∷ absent_flags_zero (view t rows) ∷ [])
  unfolding view flags_fit absent_flags_zero
  flags_by_clauses =
      every_by_columns flags_in_range absent_flags t.flags 4 _ (_ ∷ []) w.flags
      (λ o h. ap (flags_fit (flag_object o (view t rows))) (sym (list_length (14 + o) (omega arith))))
