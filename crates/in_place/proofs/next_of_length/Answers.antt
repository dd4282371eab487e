-- Only of a sound image there is something to tell.
use mathlib.Core.Path.{◌≡◌, sym, ◌∙◌}
use mathlib.Core.Bool.{true}
use Rattle.model.specs.Layout.{sound_image}
use Rattle.words.specs.Images.{Whole}
use Rattle.untimed.proofs.Laid.{sound-whole}
use Rattle.in_place.specs.Kept.{next_told}
use Rattle.in_place.proofs.next_of_length.Goals as goal
use Rattle.in_place.proofs.next_of_length.Goals.{Else-not-is_sound}

found : (c : Else-not-is_sound) → sound_image c.args.image.now ≡ true
found c = sym c.is_sound.ensures ∙ c.if-not-is_sound.false

whole : (c : Else-not-is_sound) → Whole c.args.image.now
whole c = sound-whole c.args.image.now (found c)

pub returns-then-not-is_sound : goal.returns-then-not-is_sound
unfolding next_told
returns-then-not-is_sound c =
    rw (sym c.is_sound.ensures ∙ c.if-not-is_sound.true) c.unsound.ensures

pub next_wake_up-next-requires : goal.next_wake_up-next-requires
next_wake_up-next-requires c = whole (goal.at.next_wake_up-next-requires c).Else-not-is_sound

pub told-requires : goal.told-requires
told-requires c = whole (goal.at.told-requires c).Else-not-is_sound

pub returns : goal.returns
unfolding next_told
returns c =
    rw (found (goal.at.returns c).Else-not-is_sound, c.told.ensures.report, c.next_wake_up-next.ensures)
