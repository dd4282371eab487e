-- Demand 2, in the model: an accepted call has its effect and nothing else is accepted, the chosen thread heads the highest ready list,
-- every thread stands where it must, and sound gives sound.
use mathlib.Core.Path.{◌≡◌, refl}
use mathlib.Core.Bool.{Bool, true, false, not}
use Prim.Native.Nat.{ℕ, ◌+◌, ◌≤◌}
use Rattle.sequences.specs.Lists.{count_all, every_below}
use Rattle.model.specs.declared.requests.Request.{Request}
use Rattle.model.specs.State.{State, scheduling_on}
use Rattle.model.specs.Parts.{thread}
use Rattle.model.specs.Ranges.{◌implies◌}
use Rattle.model.specs.Sound.{thread_in_range, sound}
use Rattle.model.specs.Answers.{accepted}
use Rattle.model.specs.Calls.{numbered}
use Rattle.model.specs.Tick.{tick}
use Rattle.model.specs.Kernel.{judge, answer, perform, next_state, call}
use Rattle.model.specs.Promises.{heads_highest, applies}
use Rattle.theorems.proofs.Fits.{mark-most}
use Rattle.theorems.proofs.Moves.{whole-once}
use Rattle.theorems.proofs.Choosing.{sound_steady}
use Rattle.theorems.proofs.Ticking.{tick-sound}
use Rattle.theorems.proofs.Accepting.{perform-sound}
use Rattle.theorems.proofs.Heads.{chosen-heads_highest}
use Rattle.theorems.proofs.Lowest.{lowest_accepted}
use Rattle.theorems.proofs.Replies.{reply-answer, reply_lowest}
use Rattle.theorems.proofs.Demand1.{answered}

-- the effect of an accepted call; a refusal has none
pub call-effect : (s : State) (q : Request) → (call s q).after ≡ perform (accepted (call s q).report.answer) (numbered q.call) q s
unfolding call next_state
call-effect s q = rw (reply-answer s q)

-- accepted exactly where no row of a refusal applies
pub accepted_exactly : (s : State) (q : Request) → accepted (call s q).report.answer ≡ every_below 10 (λ k. not (applies k s q))
unfolding applies
accepted_exactly s q = lowest_accepted (reply_lowest s q) (answered s q)

-- with scheduling on
pub chosen-heads : (s : State) → sound s ≡ true → scheduling_on s implies heads_highest s ≡ true
chosen-heads s whole = by_scheduling (scheduling_on s) refl
  where
    by_scheduling : (b : Bool) → scheduling_on s ≡ b → b implies heads_highest s ≡ true
    by_scheduling true on = chosen-heads_highest s whole on
    by_scheduling false off = refl

-- a created thread stands on one list, once, and any other id on none
pub on-one-list : (s : State) → sound s ≡ true → (i : ℕ)
    → (count_all i s.ready + count_all i s.waits ≡ (thread i s).created) × ((thread i s).created ≤ 1)
unfolding thread_in_range
on-one-list s whole i =
    let w = (sound_steady s whole).lawful in
    (whole-once s w i, mark-most (w.threads i))

pub sound-call : (s : State) (q : Request) → sound s ≡ true → sound (call s q).after ≡ true
unfolding call next_state answer
sound-call s q whole = rw whole (perform-sound (accepted (judge (numbered q.call) q s)) (numbered q.call) q s whole refl)

pub sound-tick : (s : State) → sound s ≡ true → sound (tick s) ≡ true
sound-tick = tick-sound
