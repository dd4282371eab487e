-- The clauses of soundness in the order of the passes, and in the model's: where the shape, the clock and the ids in lists are right, which no pass has
-- to ask, one order passes exactly where the other does. A clause is named by its place in the list that has it.
use mathlib.Core.Path.{◌≡◌, refl}
use mathlib.Core.Bool.{true}
use Prim.Native.Nat.{ℕ}
use lib.ListN.{get_or}
use Rattle.sequences.specs.Lists.{every, all_true}
use Rattle.sequences.proofs.Tests.{both, all_true-at}
use Rattle.model.specs.State.{State}
use Rattle.model.specs.Ranges.{is_bit, fits_32}
use Rattle.model.specs.Sound.{ids_in_range, shaped, fields_in_range, clauses, sound_but_choice}
use Rattle.placed.proofs.Sounds.{clause, field}
use Rattle.sound.proofs.Sorted.{thread_clauses, semaphore-clauses, mutex-clauses, flags-clauses, timer-clauses}

-- what the passes ask, but for the choice
pub record Passed (s : State) : Type 0 where
  pub off : is_bit s.off ≡ true
  pub threads : all_true (thread_clauses s) ≡ true
  pub semaphores : all_true (semaphore-clauses s) ≡ true
  pub mutexes : all_true (mutex-clauses s) ≡ true
  pub flags : all_true (flags-clauses s) ≡ true
  pub timers : all_true (timer-clauses s) ≡ true

-- what they needn't ask
pub record Formed (s : State) : Type 0 where
  pub shape : shaped s ≡ true
  pub clock : fits_32 s.clock ≡ true
  pub ready : every ids_in_range s.ready ≡ true
  pub waits : every ids_in_range s.waits ≡ true

module _ (s : State) where
  pub passed-sound : Formed s → Passed s → sound_but_choice s ≡ true
  unfolding sound_but_choice clauses fields_in_range
  passed-sound w p =
      let t : (k : ℕ) → get_or (thread_clauses s) k true ≡ true = λ k. all_true-at (thread_clauses s) k p.threads in
      let x : (k : ℕ) → get_or (semaphore-clauses s) k true ≡ true = λ k. all_true-at (semaphore-clauses s) k p.semaphores in
      let m : (k : ℕ) → get_or (mutex-clauses s) k true ≡ true = λ k. all_true-at (mutex-clauses s) k p.mutexes in
      let f : (k : ℕ) → get_or (flags-clauses s) k true ≡ true = λ k. all_true-at (flags-clauses s) k p.flags in
      let r : (k : ℕ) → get_or (timer-clauses s) k true ≡ true = λ k. all_true-at (timer-clauses s) k p.timers in
      let fields : fields_in_range s ≡ true =
      both w.clock (both p.off (both (t 0) (both (x 0) (both (m 0) (both (f 0) (both (r 0) (both w.ready (both w.waits refl))))))))
      in
      both w.shape (both fields (both (t 1) (both (t 2) (both (t 3) (both (t 4) (both (t 5) (both (x 1) (both (x 2) (both (m 1) (
      both (m 2) (both (m 3) (both (m 4) (both (t 6) (both (t 7) (both (r 1) (both (r 2) (both (r 3) (both (t 8) (both (t 9) (both (t 10) (
      both (t 11) (both (t 12) (both (x 3) (both (m 5) (both (f 1) refl)))))))))))))))))))))))))

  pub sound-passed : sound_but_choice s ≡ true → Passed s
  unfolding clauses
  sound-passed e =
      let c : (k : ℕ) → get_or (clauses s) k true ≡ true = clause s e in
      let f = field s e in
      record {
        off = f 1;
        threads =
            both (f 2) (both (c 2) (both (c 3) (both (c 4) (both (c 5) (both (c 6) (both (c 13) (both (c 14) (both (c 18) (both (c 19) (
            both (c 20) (both (c 21) (both (c 22) refl))))))))))));
        semaphores = both (f 3) (both (c 7) (both (c 8) (both (c 23) refl)));
        mutexes = both (f 4) (both (c 9) (both (c 10) (both (c 11) (both (c 12) (both (c 24) refl)))));
        flags = both (f 5) (both (c 25) refl);
        timers = both (f 6) (both (c 15) (both (c 16) (both (c 17) refl)));
      }
