-- A record written is the record changed, where what is written is what the change makes of the one that stood there.
use mathlib.Core.Path.{◌≡◌, ap}
use mathlib.Core.List.{List}
use Prim.Native.Nat.{ℕ}
use lib.ListN.{get_or}
use Rattle.sequences.proofs.Places.{alter_alike}
use Rattle.model.specs.declared.tables.Thread.{Thread}
use Rattle.model.specs.declared.tables.Semaphore.{Semaphore}
use Rattle.model.specs.declared.tables.Mutex.{Mutex}
use Rattle.model.specs.declared.tables.Flags.{Flags}
use Rattle.model.specs.declared.tables.Timer.{Timer}
use Rattle.model.specs.declared.tables.Table.{Table}
use Rattle.model.specs.State.{absent_thread, absent_semaphore, absent_mutex, absent_flags, unused_timer}
use Rattle.model.specs.Parts.{with_threads, with_semaphores, with_mutexes, with_flags, with_timers, alter_thread, alter_semaphore, alter_mutex, alter_flags, alter_timer}
use Rattle.model.specs.Before.{view}
use Rattle.table.specs.Orderly.{Meets}
use Rattle.table.proofs.Views.{meets_word}

module _ (t r : Table) (o : ℕ) where
  pub rewritten_thread : (x : Thread) (g : Thread → Thread) → x ≡ g (get_or t.threads o absent_thread)
      → Meets t (alter_thread o (λ _. x)) r → Meets t (alter_thread o g) r
  unfolding view
  rewritten_thread x g e m =
      meets_word (alter_thread o g) m
      (λ rows. ap (λ (l : List Thread). with_threads l (view t rows)) (alter_alike (λ (y : Thread). x) g absent_thread t.threads o e))

  pub rewritten_semaphore : (x : Semaphore) (g : Semaphore → Semaphore) → x ≡ g (get_or t.semaphores o absent_semaphore)
      → Meets t (alter_semaphore o (λ _. x)) r → Meets t (alter_semaphore o g) r
  unfolding view
  rewritten_semaphore x g e m =
      meets_word (alter_semaphore o g) m
      (λ rows. ap (λ (l : List Semaphore). with_semaphores l (view t rows)) (alter_alike (λ (y : Semaphore). x) g absent_semaphore t.semaphores o e))

  pub rewritten_mutex : (x : Mutex) (g : Mutex → Mutex) → x ≡ g (get_or t.mutexes o absent_mutex)
      → Meets t (alter_mutex o (λ _. x)) r → Meets t (alter_mutex o g) r
  unfolding view
  rewritten_mutex x g e m =
      meets_word (alter_mutex o g) m
      (λ rows. ap (λ (l : List Mutex). with_mutexes l (view t rows)) (alter_alike (λ (y : Mutex). x) g absent_mutex t.mutexes o e))

  pub rewritten_flags : (x : Flags) (g : Flags → Flags) → x ≡ g (get_or t.flags o absent_flags)
      → Meets t (alter_flags o (λ _. x)) r → Meets t (alter_flags o g) r
  unfolding view
  rewritten_flags x g e m =
      meets_word (alter_flags o g) m
      (λ rows. ap (λ (l : List Flags). with_flags l (view t rows)) (alter_alike (λ (y : Flags). x) g absent_flags t.flags o e))

  pub rewritten_timer : (x : Timer) (g : Timer → Timer) → x ≡ g (get_or t.timers o unused_timer)
      → Meets t (alter_timer o (λ _. x)) r → Meets t (alter_timer o g) r
  unfolding view
  rewritten_timer x g e m =
      meets_word (alter_timer o g) m
      (λ rows. ap (λ (l : List Timer). with_timers l (view t rows)) (alter_alike (λ (y : Timer). x) g unused_timer t.timers o e))
