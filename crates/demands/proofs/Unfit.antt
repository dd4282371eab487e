-- What doesn't fit: each fault that a kernel of Unfit.antt has is shut out by the demand it stands under, on a table that calls lead to.
use mathlib.Core.Path.{◌≡◌, refl, sym, ◌∙◌, ap, subst}
use mathlib.Core.Bool.{Bool, true, false, true≢false}
use mathlib.Core.List.{[], ◌∷◌}
use Prim.Native.Nat.{ℕ}
use native.Mathlib.Omega.{arith}
use lib.Dec.{eqb}
use Rattle.sequences.specs.Lists.{head_or, count_below}
use Rattle.sequences.specs.Steps.{ticks}
use Rattle.model.specs.declared.answers.Answer.{Answer}
use Rattle.model.specs.declared.requests.Request.{Request}
use Rattle.model.specs.State.{State, nobody, fresh}
use Rattle.model.specs.Parts.{timer, ready_list, with_chosen}
use Rattle.model.specs.Answers.{accepted}
use Rattle.model.specs.Tick.{wakes}
use Rattle.model.specs.Time.{after_ticks, Next, next}
use Rattle.model.specs.Kernel.{call}
use Rattle.model.specs.Promises.{advancing, run}
use Rattle.examples.specs.Asking.{create_thread, start, start_timer}
use Rattle.examples.proofs.Opened.{model}
use Rattle.theorems.proofs.Histories.{fresh-sound, run_sound}
use Rattle.theorems.proofs.Demand2.{sound-call}
use Rattle.theorems.proofs.Demand3.{next-first, next-only}
use Rattle.demands.specs.Demands.{Kernel, Demand2, Demand3}
use Rattle.demands.specs.Unfit.{RefusesAll, AnswersSo, ChangesNothing, preempted_last, PreemptsToTail, HandlesFirstOnly, CountsSo, KeepsNext}
use Rattle.demands.proofs.Fixed.{as_accepted, as_after}

-- ---- demand 2

-- accepted on a fresh table, refused on one that isn't sound
fresh_accepted : accepted (call fresh (advancing 1)).report.answer ≡ true
unfolding model
fresh_accepted = refl

unsound_refused : accepted (call (with_chosen 0 fresh) (advancing 1)).report.answer ≡ false
unfolding model
unsound_refused = refl

pub refusing_unfit : (K : Kernel) → RefusesAll K → Demand2 K → ⊥
refusing_unfit K refuses meets = true≢false (sym fresh_accepted ∙ sym (as_accepted K meets fresh (advancing 1)) ∙ refuses fresh (advancing 1))

pub answering_unfit : (K : Kernel) (a : Answer) → AnswersSo a K → Demand2 K → ⊥
answering_unfit K a so meets = by_test (accepted a) refl
  where
    by_test : (b : Bool) → accepted a ≡ b → ⊥
    by_test true e =
        true≢false (sym e ∙ ap accepted (sym (so (with_chosen 0 fresh) (advancing 1))) ∙ as_accepted K meets (with_chosen 0 fresh) (advancing 1) ∙ unsound_refused)
    by_test false e =
        true≢false (sym fresh_accepted ∙ sym (as_accepted K meets fresh (advancing 1)) ∙ ap accepted (so fresh (advancing 1)) ∙ e)

clock_moves : eqb (call fresh (advancing 1)).after.clock 0 ≡ false
unfolding model
clock_moves = refl

pub idle_unfit : (K : Kernel) → ChangesNothing K → Demand2 K → ⊥
unfolding fresh
idle_unfit K same meets =
    true≢false (ap (λ (s : State). eqb s.clock 0) (sym (same fresh (advancing 1)) ∙ as_after K meets fresh (advancing 1)) ∙ clock_moves)

-- P3: thread 1 takes over from 3, which stands before 2
abbrev shared : State
shared = run (create_thread 3 4 0 ∷ create_thread 2 4 0 ∷ create_thread 1 6 0 ∷ start 3 ∷ start 2 ∷ [])

abbrev heads_four : State → Bool
heads_four s = eqb (head_or (ready_list 4 s) nobody) 3

place_kept : heads_four (call shared (start 1)).after ≡ true
unfolding model
place_kept = refl

place_lost : heads_four (preempted_last shared (call shared (start 1)).after) ≡ false
unfolding model
place_lost = refl

pub preempting_unfit : (K : Kernel) → PreemptsToTail K → Demand2 K → ⊥
preempting_unfit K last meets =
    true≢false (sym place_kept
    ∙ ap heads_four (sym (as_after K meets shared (start 1)) ∙ last shared (start 1) (run_sound _))
    ∙ place_lost)

-- ---- demand 3

-- a timer that fires in every tick, and the probe of how often it did
abbrev pulse : State
pulse = run (start_timer 0 1 1 0 0 0 ∷ [])

abbrev fired : State → ℕ
fired s = (timer 0 s).count

pulse_due : Next pulse 1
unfolding model
pulse_due = (refl, λ j h. absurd (omega (arith, h)))

fired_twice : fired (after_ticks 2 pulse) ≡ 2
unfolding model
fired_twice = refl

fired_once : fired (after_ticks 1 pulse) ≡ 1
unfolding model
fired_once = refl

pub handling_once_unfit : (K : Kernel) → HandlesFirstOnly K → Demand3 K → ⊥
handling_once_unfit K first meets =
    let one = ap fired (first pulse (run_sound _) 2 0 refl pulse_due (omega arith)) in
    let two = ap fired (meets.ticked pulse (run_sound _) 2 refl) in
    omega (arith, one, two, fired_once, fired_twice)

-- a tick of a fresh table is no wake-up, one of that table is
fresh-quiet : count_below 1 (λ k. wakes (after_ticks k fresh)) ≡ 0
unfolding model
fresh-quiet = refl

pulse_wakes : count_below 1 (λ k. wakes (after_ticks k pulse)) ≡ 1
unfolding model
pulse_wakes = refl

pub counting_unfit : (K : Kernel) (f : ℕ → ℕ) → CountsSo f K → Demand3 K → ⊥
counting_unfit K f so meets =
    let none = sym (so fresh fresh-sound 1 refl) ∙ meets.counted fresh fresh-sound 1 refl in
    let one = sym (so pulse (run_sound _) 1 refl) ∙ meets.counted pulse (run_sound _) 1 refl in
    omega (arith, none, one, fresh-quiet, pulse_wakes)

pub counting-none_unfit : (K : Kernel) → CountsSo (λ n. 0) K → Demand3 K → ⊥
counting-none_unfit K = counting_unfit K (λ n. 0)

-- a timer with ten ticks to go, and one of three that starts
abbrev waiting : State
waiting = run (start_timer 0 10 0 0 0 0 ∷ [])

abbrev shorter : Request
shorter = start_timer 1 3 0 0 0 0

ten_before : next waiting ≡ 10
unfolding model
ten_before = refl

three_then : next (call waiting shorter).after ≡ 3
unfolding model
three_then = refl

pub saving_unfit : (K : Kernel) → KeepsNext K → Demand3 K → ⊥
unfolding ticks
saving_unfit K keeps meets = omega (arith, ten, three)
  where
    named : ℕ
    named = (K waiting (advancing 0)).report.next

    stays : (K waiting (advancing 0)).after ≡ waiting
    stays = meets.ticked waiting (run_sound _) 0 refl

    ten : named ≡ 10
    ten =
        next-only waiting named (next waiting) (subst (λ (s : State). Next s named) stays (meets.named waiting (advancing 0) (run_sound _)))
        (next-first waiting (run_sound _))
        ∙ ten_before

    kept : ((K waiting shorter).after ≡ (call waiting shorter).after) × ((K waiting shorter).report.next ≡ named)
    kept = keeps waiting shorter (run_sound _) refl (omega (arith, ten))

    after : State
    after = (call waiting shorter).after

    three : named ≡ 3
    three =
        next-only after named (next after)
        (subst (λ (k : ℕ). Next after k) kept.1 (subst (λ (s : State). Next s (K waiting shorter).report.next) kept.0 (meets.named waiting shorter (run_sound _))))
        (next-first after (sound-call waiting shorter (run_sound _)))
        ∙ three_then
