-- An example as data: a table to start from, calls, and after each call what is looked at and the number expected there. Everything is
-- seen through `call`: the reply, and the table that it hands back.
use Rattle.std.specs.Prelude.{Bool, true, ◌&&◌, List, [], ◌∷◌, ℕ, eqb, length, get_or}
use Rattle.sequences.specs.Lists.{every}
use Rattle.model.specs.declared.requests.Request.{Request}
use Rattle.model.specs.State.{State}
use Rattle.model.specs.Parts.{thread, semaphore, mutex, flag_object, timer, ready_list, list}
use Rattle.model.specs.Answers.{number}
use Rattle.model.specs.Kernel.{Outcome, call}

-- what is looked at: in the reply; of a thread; of an object; a list's length, and who stands at a place of it
pub data Probe : Type 0 where
  answer chosen clock wakeups next : Probe
  base current quantum left limit result mask mode delivered : ℕ → Probe
  count owner depth word : ℕ → Probe
  timer_left expiries : ℕ → Probe
  ready_length list_length : ℕ → Probe
  ready_at list_at : ℕ → ℕ → Probe

unfoldable pub look : Probe → Outcome → ℕ
look answer o = number o.report.answer
look chosen o = o.report.chosen
look clock o = o.report.clock
look wakeups o = o.report.wakeups
look next o = o.report.next
look (base i) o = (thread i o.after).base
look (current i) o = (thread i o.after).current
look (quantum i) o = (thread i o.after).quantum
look (left i) o = (thread i o.after).left
look (limit i) o = (thread i o.after).limit
look (result i) o = (thread i o.after).result
look (mask i) o = (thread i o.after).mask
look (mode i) o = (thread i o.after).mode
look (delivered i) o = (thread i o.after).delivered
look (count x) o = (semaphore x o.after).count
look (owner x) o = (mutex x o.after).owner
look (depth x) o = (mutex x o.after).depth
look (word x) o = (flag_object x o.after).word
look (timer_left x) o = (timer x o.after).left
look (expiries x) o = (timer x o.after).count
look (ready_length p) o = length (ready_list p o.after)
look (list_length j) o = length (list j o.after)
look (ready_at p k) o = get_or (ready_list p o.after) k 255
look (list_at j k) o = get_or (list j o.after) k 255

infix 80 ◌is◌
pub record Expected : Type 0 where
  pub probe : Probe
  pub value : ℕ

abbrev pub ◌is◌ : Probe → ℕ → Expected
p is v = record { probe = p; value = v }

pub record Step : Type 0 where
  pub request : Request
  pub expected : List Expected

infixr 10 ◌gives◌then◌
abbrev pub ◌gives◌then◌ : Request → List Expected → List Step → List Step
q gives es then steps = record { request = q; expected = es } ∷ steps

abbrev pub end : List Step
end = []

pub record Case : Type 0 where
  pub from : State
  pub steps : List Step

-- each call's expected values hold of its reply, and so on from the table that it hands back
unfoldable pub steps_right : State → List Step → Bool
steps_right s [] = true
steps_right s (x ∷ xs) =
    let o : Outcome = call s x.request in
    every (λ (e : Expected). eqb (look e.probe o) e.value) x.expected && steps_right o.after xs

unfoldable pub right : Case → Bool
right c = steps_right c.from c.steps
