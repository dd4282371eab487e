-- What an allowed call has: threads that stand as they must, what it names, and, where the call needs it, a thread that runs.
use mathlib.Core.Path.{◌≡◌, refl, subst}
use mathlib.Core.Bool.{Bool, true, false, not}
use mathlib.Core.List.{List, ◌∷◌}
use Prim.Native.Nat.{ℕ, suc, ◌<◌}
use native.Mathlib.Omega.{arith}
use borrow.Author.Tests.{not-false}
use lib.ListN.{get_or, take}
use Rattle.sequences.specs.Lists.{every}
use Rattle.model.specs.declared.answers.Answer.TheVariants.{Done, NoObject}
use Rattle.model.specs.declared.requests.Request.{Request}
use Rattle.model.specs.State.{State}
use Rattle.model.specs.Ranges.{has_thread, has_semaphore, has_mutex, has_flags}
use Rattle.model.specs.Answers.{Given, ◌when◌, accepted, first-due}
use Rattle.model.specs.Calls.{Call, answers, nobody_runs}
use Rattle.placed.proofs.Standing.{standing_below}
use Rattle.rules.proofs.InRange.{there_below}
use Rattle.theorems.specs.Allowed.{Allowed}
use Rattle.theorems.specs.Lawful.{Steady}
use Rattle.theorems.proofs.Choosing.{sound_steady}
use Rattle.theorems.proofs.Passed.{refuses, passed}
use Rattle.theorems.proofs.Running.{running-ready}

module _ {c : Call} {q : Request} {s : State} (a : Allowed c q s) where
  pub steady : Steady s
  steady = sound_steady s a.sound

  -- who runs is a thread
  pub running_below : nobody_runs s ≡ false → s.chosen < 16
  running_below runs = standing_below steady.lawful.placed s.chosen (omega (arith, running-ready s steady runs))

  -- a refusal that an allowed call has passed, by its place
  pub not-due : (k : ℕ) → every refuses (take (suc k) (answers c q s)) ≡ true → (get_or (answers c q s) k (Done when false)).due ≡ false
  not-due k refusals = passed (answers c q s) k refusals a.passed

  -- what it names is there

  named : (b : Bool) {rest : List Given} → answers c q s ≡ (NoObject when not b) ∷ rest → b ≡ true
  named b {rest} e =
      not-false b (passed ((NoObject when not b) ∷ rest) 0 refl (subst (λ (l : List Given). accepted (first-due l) ≡ true) e a.passed))

  pub thread-named : {rest : List Given} → answers c q s ≡ (NoObject when not (has_thread q.id s)) ∷ rest → q.id < 16
  thread-named e = there_below q.id 16 _ (named (has_thread q.id s) e)

  pub semaphore-named : {rest : List Given} → answers c q s ≡ (NoObject when not (has_semaphore q.id s)) ∷ rest → q.id < 8
  semaphore-named e = there_below q.id 8 _ (named (has_semaphore q.id s) e)

  pub mutex-named : {rest : List Given} → answers c q s ≡ (NoObject when not (has_mutex q.id s)) ∷ rest → q.id < 4
  mutex-named e = there_below q.id 4 _ (named (has_mutex q.id s) e)

  pub flags-named : {rest : List Given} → answers c q s ≡ (NoObject when not (has_flags q.id s)) ∷ rest → q.id < 4
  flags-named e = there_below q.id 4 _ (named (has_flags q.id s) e)
