-- A refusal leaves the image and has no ticks; else its ticks are those asked for. What is told is what the model tells of the image after them.
use Rattle.std.proofs.Common.{◌≡◌, ℕ, true, false, eqb, sym, ap, ◌∙◌, ap₂}
use native.Mathlib.Omega.{arith}
use Rattle.sequences.specs.Steps.{wakeups}
use Rattle.model.specs.declared.answers.Answer.{Answer}
use Rattle.model.specs.declared.requests.Request.{Request}
use Rattle.model.specs.State.{State}
use Rattle.model.specs.Answers.{number, accepted}
use Rattle.model.specs.Calls.{advance_call}
use Rattle.model.specs.Time.{after_ticks, wakeups_in, next}
use Rattle.model.specs.Kernel.{next_state, perform, span, Outcome, outcome}
use Rattle.model.specs.Layout.{view}
use Rattle.theorems.proofs.Outcomes as outcomes
use Rattle.theorems.proofs.Outcomes.{whole-outcome}
use Rattle.theorems.proofs.Spanned.{spanned}
use Rattle.untimed.proofs.Laid.{view-sound, sound-whole}
use Rattle.timed.proofs.timed.Goals as goal

-- the report of an answer other than 1
reported : (a : Answer) (w : ℕ) (r : State) → eqb (number a) 1 ≡ false
    → record { answer = a; chosen = r.chosen; clock = r.clock; wakeups = w; next = next r } ≡ (outcome a w r).report
reported a w r e = rw e

-- the ticks of an accepted advance, and those of a refused one
ticks-asked : (a : Answer) (q : Request) → accepted a ≡ true → q.call ≡ advance_call → q.a ≡ span a q
ticks-asked a q ok call = rw (ok, call)

no_ticks : (a : Answer) (q : Request) (s : State) → accepted a ≡ false → 0 ≡ wakeups_in (span a q) s
unfolding wakeups
no_ticks a q s refused = rw refused

unmoved : (a : Answer) (q : Request) (s : State) → accepted a ≡ false → s ≡ next_state a q s
unfolding next_state perform
unmoved a q s refused = rw refused

pub answer-answer-requires : goal.answer-answer-requires
answer-answer-requires c = omega (arith, c.requires.call_value)

pub next_wake_up-next-requires : goal.next_wake_up-next-requires
next_wake_up-next-requires c = sound-whole c.args.image.now c.requires.image_value

pub told-requires : goal.told-requires
told-requires c = sound-whole c.args.image.now c.requires.image_value

pub returns-then-not-is_accepted : goal.returns-then-not-is_accepted
returns-then-not-is_accepted c =
    let b = c.args.image.now in
    let q = c.args.q in
    let v = view b in
    let a = c.answer-answer.result in
    let fine = view-sound b c.requires.image_value in
    let given = c.answer-answer.ensures v in
    let refused = sym c.is_accepted.ensures ∙ c.if-not-is_accepted.true in
    let whole = whole-outcome v q fine given (unmoved a q v refused) in record {
      report = c.told.ensures.report
          ∙ ap₂ (λ (w x : ℕ). record { answer = a; chosen = v.chosen; clock = v.clock; wakeups = w; next = x }) (no_ticks a q v refused) c.next_wake_up-next.ensures
          ∙ reported a (wakeups_in (span a q) v) v (outcomes.told v q fine given)
          ∙ ap (λ (o : Outcome). o.report) (sym whole);
      image = rw whole c.told.ensures.laid;
    }

pub returns : goal.returns
returns c =
    let b = c.args.image.now in
    let q = c.args.q in
    let v = view b in
    let a = c.answer-answer.result in
    let fine = view-sound b c.requires.image_value in
    let given = c.answer-answer.ensures v in
    let ok = sym c.is_accepted.ensures ∙ c.if-not-is_accepted.false in
    let asked = ticks-asked a q ok c.requires.call_value in
    let d = c.pass-passed.ensures in
    let r = view c.pass-passed.new.image in
    let after = d.image.view ∙ ap (λ (n : ℕ). after_ticks n v) asked ∙ spanned a q v c.requires.call_value in
    let whole = whole-outcome v q fine given after in record {
      report = c.told-2.ensures.report
          ∙ ap₂ (λ (w x : ℕ). record { answer = a; chosen = r.chosen; clock = r.clock; wakeups = w; next = x })
          (d.wakeups ∙ ap (λ (n : ℕ). wakeups_in n v) asked) d.next
          ∙ reported a (wakeups_in (span a q) v) r (outcomes.told v q fine given)
          ∙ ap (λ (o : Outcome). o.report) (sym whole);
      image = rw whole c.told-2.ensures.laid;
    }
