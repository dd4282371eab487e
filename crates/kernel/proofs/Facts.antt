-- What an allowed call has: an orderly table, threads that stand as they must, and, where the call needs it, a thread that runs.
use mathlib.Core.Path.{◌≡◌, refl, subst}
use mathlib.Core.Bool.{Bool, true, false, not}
use mathlib.Core.List.{List, ◌∷◌}
use Prim.Native.Nat.{ℕ, suc, ◌<◌}
use native.Mathlib.Omega.{arith}
use borrow.Author.Tests.{not-false}
use lib.ListN.{get_or, take}
use Rattle.sequences.specs.Lists.{every}
use Rattle.sequences.proofs.Tests.{right}
use Rattle.model.specs.declared.answers.Answer.TheVariants.{Done, NoObject}
use Rattle.model.specs.declared.requests.Request.{Request}
use Rattle.model.specs.declared.tables.Table.{Table}
use Rattle.model.specs.Ranges.{has_thread, has_semaphore, has_mutex, has_flags}
use Rattle.model.specs.Sound.{sound}
use Rattle.model.specs.Answers.{Given, ◌when◌, accepted, first-due}
use Rattle.model.specs.Calls.{Call, answers, nobody_runs}
use Rattle.model.specs.Before as layout
use Rattle.model.specs.Before.{view, orderly, sound_table}
use Rattle.placed.proofs.Standing.{standing_below}
use Rattle.table.specs.Orderly.{Whole}
use Rattle.table.proofs.Stored.{sound-whole}
use Rattle.theorems.specs.Lawful.{Steady}
use Rattle.theorems.proofs.Choosing.{sound_steady}
use Rattle.theorems.proofs.Passed.{refuses, passed}
use Rattle.theorems.proofs.Running.{running-ready}
use Rattle.rules.proofs.InRange.{there_below}
use Rattle.kernel.specs.Allowed.{Allowed}

module _ {c : Call} {q : Request} {t : Table} {rows : layout.Rows} (a : Allowed c q t rows) where
  pub whole : Whole t rows
  whole = sound-whole a.sound

  pub steady : Steady (view t rows)
  unfolding sound_table
  steady = sound_steady (view t rows) (right (orderly t rows) (sound (view t rows)) a.sound)

  -- who runs is a thread
  pub running_below : nobody_runs (view t rows) ≡ false → t.chosen < 16
  unfolding view
  running_below runs = standing_below steady.lawful.placed t.chosen (omega (arith, running-ready (view t rows) steady runs))

  -- a refusal that an allowed call has passed, by its place
  pub not-due : (k : ℕ) → every refuses (take (suc k) (answers c q (view t rows))) ≡ true → (get_or (answers c q (view t rows)) k (Done when false)).due ≡ false
  not-due k refusals = passed (answers c q (view t rows)) k refusals a.passed

  -- what it names is there

  named : (b : Bool) {rest : List Given} → answers c q (view t rows) ≡ (NoObject when not b) ∷ rest → b ≡ true
  named b {rest} e =
      not-false b (passed ((NoObject when not b) ∷ rest) 0 refl (subst (λ (l : List Given). accepted (first-due l) ≡ true) e a.passed))

  pub thread-named : {rest : List Given} → answers c q (view t rows) ≡ (NoObject when not (has_thread q.id (view t rows))) ∷ rest → q.id < 16
  thread-named e = there_below q.id 16 _ (named (has_thread q.id (view t rows)) e)

  pub semaphore-named : {rest : List Given} → answers c q (view t rows) ≡ (NoObject when not (has_semaphore q.id (view t rows))) ∷ rest → q.id < 8
  semaphore-named e = there_below q.id 8 _ (named (has_semaphore q.id (view t rows)) e)

  pub mutex-named : {rest : List Given} → answers c q (view t rows) ≡ (NoObject when not (has_mutex q.id (view t rows))) ∷ rest → q.id < 4
  mutex-named e = there_below q.id 4 _ (named (has_mutex q.id (view t rows)) e)

  pub flags-named : {rest : List Given} → answers c q (view t rows) ≡ (NoObject when not (has_flags q.id (view t rows))) ∷ rest → q.id < 4
  flags-named e = there_below q.id 4 _ (named (has_flags q.id (view t rows)) e)
