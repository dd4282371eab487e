-- Our kernel meets the three demands.
use mathlib.Core.Path.{◌≡◌, refl, ◌∙◌, ap, subst}
use mathlib.Core.Bool.{Bool, true, false, ◌&&◌}
use mathlib.Core.Logic.{◌⊎◌, inl, inr}
use Prim.Native.Nat.{ℕ, ◌+◌, ◌<◌}
use lib.Dec.{eqb}
use Rattle.sequences.specs.Steps.{wakeups}
use Rattle.model.specs.declared.answers.Report.{Report}
use Rattle.model.specs.declared.requests.Request.{Request}
use Rattle.model.specs.State.{State}
use Rattle.model.specs.Ranges.{fits_32}
use Rattle.model.specs.Sound.{sound}
use Rattle.model.specs.Answers.{number, accepted, report}
use Rattle.model.specs.Calls.{is_advance}
use Rattle.model.specs.Time.{next}
use Rattle.model.specs.Kernel.{Outcome, answer, call}
use Rattle.model.specs.Promises.{advancing}
use Rattle.theorems.proofs.Demand1.{given_exactly, done_exactly, refused_unchanged, sound-reply}
use Rattle.theorems.proofs.Demand2.{call-effect, accepted_exactly, chosen-heads, on-one-list, sound-call}
use Rattle.theorems.proofs.Demand3.{advance-done, wakeups_exactly, advances_add, next-named, nothing_moves}
use Rattle.theorems.proofs.Replies.{reply-answer}
use Rattle.demands.specs.Demands.{Demand1, Demand2, Demand3, Demands}

ours_told : (s : State) (q : Request) → (call s q).report ≡ report (call s q).report.answer (call s q).after (call s q).report.wakeups (call s q).report.next
unfolding call
ours_told s q = by_test (eqb (number (answer s q)) 1) refl
  where
    by_test : (b : Bool) → eqb (number (answer s q)) 1 ≡ b
        → (call s q).report ≡ report (call s q).report.answer (call s q).after (call s q).report.wakeups (call s q).report.next
    by_test true e = rw (e, e)
    by_test false e = rw (e, e)

ours_quiet : (s : State) (q : Request) → (accepted (call s q).report.answer && is_advance q ≡ true) ⊎ ((call s q).report.wakeups ≡ 0)
unfolding call wakeups
ours_quiet s q = by_test (accepted (answer s q) && is_advance q) refl
  where
    none_told : (b : Bool) → eqb (number (answer s q)) 1 ≡ b → accepted (answer s q) && is_advance q ≡ false → (call s q).report.wakeups ≡ 0
    none_told true one e = rw one
    none_told false one e = rw (one, e)

    by_test : (b : Bool) → accepted (answer s q) && is_advance q ≡ b
        → (accepted (call s q).report.answer && is_advance q ≡ true) ⊎ ((call s q).report.wakeups ≡ 0)
    by_test true e = inl (rw (reply-answer s q) e)
    by_test false e = inr (none_told (eqb (number (answer s q)) 1) refl e)

ours_unchanged : (s : State) (q : Request) → (accepted (call s q).report.answer ≡ true) ⊎ ((call s q).after ≡ s)
ours_unchanged s q = elim (refused_unchanged s q) [
  | inl taken ↦ inl taken
  | inr same ↦ inr (ap (λ (o : Outcome). o.after) same)
]

ours_add : (s : State) → sound s ≡ true → (a b : ℕ) → fits_32 (a + b) ≡ true
    → ((call s (advancing (a + b))).after ≡ (call (call s (advancing a)).after (advancing b)).after)
    × ((call s (advancing (a + b))).report.wakeups
    ≡ (call s (advancing a)).report.wakeups + (call (call s (advancing a)).after (advancing b)).report.wakeups)
ours_add s whole a b fits =
    let e = advances_add s whole a b fits in
    (ap (λ (o : Outcome). o.after) e, ap (λ (o : Outcome). o.report.wakeups) e)

ours_still : (s : State) → sound s ≡ true → (m : ℕ) → fits_32 m ≡ true → (next s ≡ 0) ⊎ (m < next s)
    → ((call s (advancing m)).after.ready ≡ s.ready) × ((call s (advancing m)).after.waits ≡ s.waits) × ((call s (advancing m)).after.chosen ≡ s.chosen)
ours_still s whole m fits before =
    let e = ap (λ (o : Outcome). o.after) (advance-done s whole m fits) in
    let same = nothing_moves s whole m before in
    (ap (λ (x : State). x.ready) e ∙ same.0, ap (λ (x : State). x.waits) e ∙ same.1, ap (λ (x : State). x.chosen) e ∙ same.2)

pub ours_1 : Demand1 call
ours_1 =
    record {
      given = given_exactly;
      done = done_exactly;
      unchanged = ours_unchanged;
      told = ours_told;
      quiet = ours_quiet;
    }

pub ours_2 : Demand2 call
ours_2 =
    record {
      effect = call-effect;
      accepts = accepted_exactly;
      heads = λ s q whole. chosen-heads (call s q).after (sound-call s q whole);
      stands = λ s q whole. on-one-list (call s q).after (sound-call s q whole);
      keeps_sound = sound-call;
    }

pub ours_3 : Demand3 call
ours_3 =
    record {
      ticked = λ s whole n fits. ap (λ (o : Outcome). o.after) (advance-done s whole n fits);
      counted = wakeups_exactly;
      adds = ours_add;
      named = next-named;
      still =
          λ s q whole m fits before. ours_still (call s q).after (sound-call s q whole) m fits
          (subst (λ (k : ℕ). (k ≡ 0) ⊎ (m < k)) (ap (λ (r : Report). r.next) (sound-reply s q whole)) before);
    }

pub ours : Demands call
ours = record { first = ours_1; second = ours_2; third = ours_3 }
