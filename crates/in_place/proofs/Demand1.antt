-- Demand 1, of images: every call ends with an answer, 1 says that the image isn't sound, any other number is given exactly when its row of the
-- table of answers applies and no lower one does, and a refusal changes no byte.
use mathlib.Core.Path.{◌≡◌, refl, sym, ◌∙◌, ap, ap₂}
use mathlib.Core.Bool.{Bool, true, false, cond, not, ◌&&◌}
use mathlib.Core.List.{List}
use mathlib.Core.Logic.{◌⊎◌, inl, inr}
use Prim.Native.Nat.{ℕ, ◌≤◌, suc}
use lib.Dec.{eqb}
use Rattle.sequences.specs.Bytes.{Bytes}
use Rattle.sequences.specs.Lists.{every_below}
use Rattle.model.specs.declared.answers.Answer.{Answer}
use Rattle.model.specs.declared.answers.Report.{Report}
use Rattle.model.specs.declared.requests.Request.{Request}
use Rattle.model.specs.State.{State}
use Rattle.model.specs.Answers.{number, accepted}
use Rattle.model.specs.Time.{next}
use Rattle.model.specs.Kernel.{Outcome, outcome, call}
use Rattle.model.specs.Layout.{view, lay, sound_image}
use Rattle.model.specs.Promises.{applies}
use Rattle.rules.specs.Reports.{unsound_report}
use Rattle.theorems.proofs.Replies.{number-most}
use Rattle.theorems.proofs.Demand1 as model
use Rattle.untimed.proofs.Laid.{view-sound}
use Rattle.in_place.specs.Kept.{told, kept}
use Rattle.in_place.proofs.Calling.{sound-laid, told-sound, kept-laid, view-kept}

-- every call ends with an answer
pub answered : (b : List ℕ) (q : Request) → number (told b q).answer ≤ 10
answered b q = number-most (told b q).answer

-- ---- images that aren't sound

-- nothing is told of them, and every byte stays as it was
pub unsound_kept : (b : List ℕ) (q : Request) → sound_image b ≡ false → (told b q ≡ unsound_report) × (kept b q ≡ b)
unfolding told kept
unsound_kept b q e = rw e (refl, refl)

-- they alone are answered 1
pub unsound_exactly : (b : List ℕ) (q : Request) → eqb (number (told b q).answer) 1 ≡ not (sound_image b)
unfolding told
unsound_exactly b q = by_sound (sound_image b) refl
  where
    by_sound : (t : Bool) → sound_image b ≡ t → eqb (number (cond t (call (view b) q).report unsound_report).answer) 1 ≡ not t
    by_sound true e = model.unsound_exactly (view b) q ∙ ap not (view-sound b e)
    by_sound false e = refl

-- ---- sound images

abbrev told_of : Report → State → Report
told_of r s = record { answer = r.answer; chosen = s.chosen; clock = s.clock; wakeups = r.wakeups; next = next s }

-- what is told is what the image left holds
pub sound-told : (b : List ℕ) (q : Request) → sound_image b ≡ true
    → told b q
    ≡ record {
      answer = (told b q).answer;
      chosen = (view (kept b q)).chosen;
      clock = (view (kept b q)).clock;
      wakeups = (told b q).wakeups;
      next = next (view (kept b q));
    }
sound-told b q whole =
    told-sound b whole q ∙ model.sound-reply (view b) q (view-sound b whole) ∙ ap₂ told_of (sym (told-sound b whole q)) (sym (view-kept b whole q))

-- a number is given exactly where its row applies and no lower one does
pub given_exactly : (b : List ℕ) (q : Request) (n : ℕ) → sound_image b ≡ true
    → eqb (number (told b q).answer) (suc n) ≡ applies (suc n) (view b) q && every_below (suc n) (λ j. not (applies j (view b) q))
given_exactly b q n whole = ap (λ (r : Report). eqb (number r.answer) (suc n)) (told-sound b whole q) ∙ model.given_exactly (view b) q n

-- and 0 exactly where none applies
pub done_exactly : (b : List ℕ) (q : Request) → sound_image b ≡ true
    → eqb (number (told b q).answer) 0 ≡ every_below 11 (λ j. not (applies j (view b) q))
done_exactly b q whole = ap (λ (r : Report). eqb (number r.answer) 0) (told-sound b whole q) ∙ model.done_exactly (view b) q

-- ---- all images

none-reported : (a : Answer) (s : State) → (outcome a 0 s).report.wakeups ≡ 0
none-reported a s = by_number (eqb (number a) 1) _ _ refl refl
  where
    by_number : (t : Bool) (r o : Report) → r.wakeups ≡ 0 → o.wakeups ≡ 0 → (cond t r o).wakeups ≡ 0
    by_number true r o e f = e
    by_number false r o e f = f

-- a refusal leaves every byte as it was and reports no wake-up
pub refused_kept : (b : List ℕ) (q : Request) → Bytes b → (accepted (told b q).answer ≡ true) ⊎ ((kept b q ≡ b) × ((told b q).wakeups ≡ 0))
refused_kept b q bytes = by_sound (sound_image b) refl
  where
    by_model : sound_image b ≡ true
        → (accepted (call (view b) q).report.answer ≡ true) ⊎ (call (view b) q ≡ outcome (call (view b) q).report.answer 0 (view b))
        → (accepted (told b q).answer ≡ true) ⊎ ((kept b q ≡ b) × ((told b q).wakeups ≡ 0))
    by_model whole (inl e) = inl (ap (λ (r : Report). accepted r.answer) (told-sound b whole q) ∙ e)
    by_model whole (inr e) = inr (
      kept-laid b whole q ∙ ap (λ (o : Outcome). lay o.after) e ∙ sound-laid b whole bytes,
      ap (λ (r : Report). r.wakeups) (told-sound b whole q)
          ∙ ap (λ (o : Outcome). o.report.wakeups) e
          ∙ none-reported (call (view b) q).report.answer (view b),
    )

    by_sound : (t : Bool) → sound_image b ≡ t → (accepted (told b q).answer ≡ true) ⊎ ((kept b q ≡ b) × ((told b q).wakeups ≡ 0))
    by_sound true whole = by_model whole (model.refused_unchanged (view b) q)
    by_sound false e = let same = unsound_kept b q e in inr (same.1, ap (λ (r : Report). r.wakeups) same.0)
