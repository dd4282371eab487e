use Rattle.trial.proofs.ordizgum_linked_sound.Goals as goal

pub returns-then-is_sound : goal.returns-then-is_sound
returns-then-is_sound c = rw (← c.is_sound.ensures, c.if-is_sound.true)

pub returns-else-is_sound : goal.returns-else-is_sound
returns-else-is_sound c = rw (← c.is_sound.ensures, c.if-is_sound.false)
