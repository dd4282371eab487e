-- What an advance leaves is what its ticks leave: those asked for where it is accepted, none where it is refused.
use mathlib.Core.Path.{◌≡◌, refl, sym, subst}
use mathlib.Core.Bool.{Bool, true, false, cond, ◌&&◌}
use Prim.Native.Nat.{ℕ}
use lib.Dec.{eqb}
use Rattle.sequences.specs.Steps.{ticks}
use Rattle.model.specs.declared.answers.Answer.{Answer}
use Rattle.model.specs.declared.requests.Request.{Request}
use Rattle.model.specs.State.{State}
use Rattle.model.specs.Answers.{accepted}
use Rattle.model.specs.Calls.{calls, advance_call, numbered}
use Rattle.model.specs.Time.{after_ticks}
use Rattle.model.specs.Kernel.{accept, perform, next_state, span}

pub spanned : (a : Answer) (q : Request) (s : State) → q.call ≡ advance_call → after_ticks (span a q) s ≡ next_state a q s
unfolding next_state numbered calls perform accept ticks
spanned a q s advances = subst (λ (n : ℕ). ticked n (accepted a)) (sym advances) (by_answer (accepted a))
  where
    ticked : ℕ → Bool → Type 0
    ticked n b = after_ticks (cond (b && eqb n advance_call) q.a 0) s ≡ perform b (numbered n) q s

    by_answer : (b : Bool) → ticked advance_call b
    by_answer true = refl
    by_answer false = refl
