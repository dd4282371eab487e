-- Of a sound image it is told that all is well, whose number is 0, and of any other that it isn't sound, whose number is 1.
use mathlib.Core.Path.{◌≡◌, refl, ap, ◌∙◌}
use mathlib.Core.Bool.{Bool, true, false, cond}
use mathlib.Core.List.{List, [], ◌∷◌}
use Prim.Native.Nat.{ℕ}
use Rattle.model.specs.declared.answers.Report.{Report}
use Rattle.model.specs.declared.answers.Answer.TheVariants.{Done}
use Rattle.model.specs.Answers.{number, report}
use Rattle.model.specs.Time.{next}
use Rattle.model.specs.Layout.{view, sound_image}
use Rattle.rules.specs.Reports.{zero_if, unsound_report}
use Rattle.in_place.specs.Kept.{next_told}
use Rattle.trial.proofs.ordizgum_linked_next_wake_up.Goals as goal

by_test : (v : Bool) (done unsound : Report) → number done.answer ≡ 0 → number unsound.answer ≡ 1
    → number (cond v done unsound).answer ≡ zero_if v
by_test true done unsound d u = d
by_test false done unsound d u = u

told-number : (b : List ℕ) → number (next_told b).answer ≡ zero_if (sound_image b)
unfolding next_told
told-number b = by_test (sound_image b) (report Done (view b) 0 (next (view b))) unsound_report refl refl

pub returns : goal.returns
returns c =
    let told = c.next_wake_up-told.ensures in
    record {
      answer = c.from.ensures ∙ ap (λ (r : Report). number r.answer) told ∙ told-number c.args.image.now;
      next = ap (λ (r : Report). r.next ∷ []) told;
    }
