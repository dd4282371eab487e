-- From the answer and the table after it to the model's whole outcome.
use mathlib.Core.Path.{◌≡◌, sym, ◌∙◌, ap}
use mathlib.Core.Bool.{Bool, false, true, cond, and-false}
use borrow.Author.Tests.{ne_eqb}
use lib.Dec.{eqb}
use Rattle.sequences.specs.Steps.{wakeups}
use Rattle.model.specs.declared.answers.Answer.{Answer}
use Rattle.model.specs.declared.answers.Answer.TheVariants.{Unsound}
use Rattle.model.specs.declared.requests.Request.{Request}
use Rattle.model.specs.State.{State}
use Rattle.model.specs.Sound.{sound}
use Rattle.model.specs.Answers.{number, accepted}
use Rattle.model.specs.Calls.{numbered}
use Rattle.model.specs.Time.{wakeups_in}
use Rattle.model.specs.Kernel.{judge, answer, next_state, span, outcome, call}
use Rattle.theorems.proofs.Replies.{judge_other}

module _ (s : State) (q : Request) (is_sound : sound s ≡ true) {a : Answer} (given : a ≡ judge (numbered q.call) q s) where
  its_answer : answer s q ≡ a
  unfolding answer
  its_answer = ap (λ (b : Bool). cond b (judge (numbered q.call) q s) Unsound) is_sound ∙ sym given

  pub told : eqb (number a) 1 ≡ false
  told = rw given (judge_other (numbered q.call) q s)

  pub no_ticks : (q.call ≡ 22 → ⊥) → 0 ≡ wakeups_in (span a q) s
  unfolding wakeups
  no_ticks other = rw (ne_eqb q.call 22 other, and-false (accepted a))

  pub whole-outcome : {r : State} → r ≡ next_state a q s → call s q ≡ outcome a (wakeups_in (span a q) s) r
  unfolding call
  whole-outcome same =
      ap (λ (x : Answer). outcome x (wakeups_in (span x q) s) (next_state x q s)) its_answer
      ∙ ap (outcome a (wakeups_in (span a q) s)) (sym same)
