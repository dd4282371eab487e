-- By the test of soundness: a sound table is what each kind of call asks for, and any other comes back as it was with answer 1.
use mathlib.Core.Path.{◌≡◌, sym, ◌∙◌}
use mathlib.Core.Bool.{true}
use Rattle.model.specs.Before.{sound_table, call_by, call_table}
use Rattle.entries.proofs.call.Goals as goal
use Rattle.entries.proofs.call.Goals.{Then-is_sound}

sound : (c : Then-is_sound) → sound_table c.args.t c.args.rows.now ≡ true
sound c = sym c.is_sound.ensures ∙ c.if-is_sound.true

pub timed-requires : goal.timed-requires
timed-requires c = record { rows_value = sound (goal.at.timed-requires c).Then-is_sound; call_value = c.if-q.true }

pub untimed-requires : goal.untimed-requires
untimed-requires c = record { rows_value = sound (goal.at.untimed-requires c).Then-is_sound; fact = c.if-q.false }

pub returns-then-q : goal.returns-then-q
unfolding call_table call_by
returns-then-q c = rw (sound (goal.at.returns-then-q c).Then-is_sound) c.timed.ensures

pub returns-else-q : goal.returns-else-q
unfolding call_table call_by
returns-else-q c = rw (sound (goal.at.returns-else-q c).Then-is_sound) c.untimed.ensures

pub returns-else-is_sound : goal.returns-else-is_sound
unfolding call_table call_by
returns-else-is_sound c = rw (c.unsound-report.ensures, ← c.is_sound.ensures, c.if-is_sound.false)
