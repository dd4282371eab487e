-- By the test of soundness: a sound table is whole, and its next wake-up is told; any other is answered 1.
use mathlib.Core.Path.{◌≡◌, sym, ◌∙◌, ap}
use mathlib.Core.Bool.{Bool, true}
use Rattle.model.specs.declared.answers.Answer.TheVariants.{Done}
use Rattle.model.specs.Answers.{report}
use Rattle.model.specs.Before.{view, sound_table}
use Rattle.model.specs.Stored.{next_told_by, next_told}
use Rattle.table.proofs.Stored.{sound-whole}
use Rattle.entries.proofs.next_wake_up.Goals as goal
use Rattle.entries.proofs.next_wake_up.Goals.{Then-is_sound}

sound : (c : Then-is_sound) → sound_table c.args.t c.args.rows ≡ true
sound c = sym c.is_sound.ensures ∙ c.if-is_sound.true

pub next_wake_up-next-requires : goal.next_wake_up-next-requires
next_wake_up-next-requires c = (c.args.rows, (sound-whole (sound c)).order)

pub returns-then-is_sound : goal.returns-then-is_sound
unfolding next_told next_told_by view
returns-then-is_sound c =
    let a = c.args in
    let s = view a.t a.rows in
    c.report.ensures
    ∙ ap (report Done s 0) (c.next_wake_up-next.ensures a.rows (sound-whole (sound (goal.at.returns-then-is_sound c).Then-is_sound)).order)
    ∙ ap (λ (b : Bool). next_told_by b s) (sym (sound (goal.at.returns-then-is_sound c).Then-is_sound))

pub returns-else-is_sound : goal.returns-else-is_sound
unfolding next_told next_told_by
returns-else-is_sound c = rw (← c.is_sound.ensures, c.if-is_sound.false) c.unsound.ensures
