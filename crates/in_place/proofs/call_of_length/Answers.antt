-- By the test of soundness: a sound image is what each kind of call asks for, and any other stays as it was with answer 1.
use mathlib.Core.Path.{◌≡◌, refl, sym, ◌∙◌}
use mathlib.Core.Bool.{true, false}
use Rattle.model.specs.Layout.{sound_image}
use Rattle.in_place.specs.Kept.{told, kept}
use Rattle.in_place.proofs.call_of_length.Goals as goal
use Rattle.in_place.proofs.call_of_length.Goals.{Else-not-is_sound}

found : (c : Else-not-is_sound) → sound_image c.args.image.now ≡ true
found c = sym c.is_sound.ensures ∙ c.if-not-is_sound.false

pub returns-then-not-is_sound : goal.returns-then-not-is_sound
unfolding told kept
returns-then-not-is_sound c =
    let fails : sound_image c.args.image.now ≡ false = sym c.is_sound.ensures ∙ c.if-not-is_sound.true in
    record { report = rw fails c.unsound.ensures; image = rw fails refl }

pub timed-requires : goal.timed-requires
timed-requires c = record { image_value = found (goal.at.timed-requires c).Else-not-is_sound; call_value = c.if-q.true }

pub untimed-requires : goal.untimed-requires
untimed-requires c = record { image_value = found (goal.at.untimed-requires c).Else-not-is_sound; fact = c.if-q.false }

pub returns-then-q : goal.returns-then-q
unfolding told kept
returns-then-q c =
    let sound = found (goal.at.returns-then-q c).Else-not-is_sound in
    record { report = rw sound c.timed.ensures.report; image = rw sound c.timed.ensures.image }

pub returns-else-q : goal.returns-else-q
unfolding told kept
returns-else-q c =
    let sound = found (goal.at.returns-else-q c).Else-not-is_sound in
    record { report = rw sound c.untimed.ensures.report; image = rw sound c.untimed.ensures.image }
