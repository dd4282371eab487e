-- Every example holds, by computation from the model alone: one statement for P1 to P12, one for the edges, one for the replay files;
-- then what is sound and what isn't.
use mathlib.Core.Path.{◌≡◌, refl}
use mathlib.Core.Bool.{true, false}
use lib.ListN.{set, replicate}
use Rattle.sequences.specs.Lists.{every}
use Rattle.model.specs.State.{nobody, fresh}
use Rattle.model.specs.Sound.{sound}
use Rattle.model.specs.Layout.{image_length, lay, sound_image}
use Rattle.model.specs.Before.{lay_table, lay_rows, sound_table}
use Rattle.examples.proofs.Opened.{model}
use Rattle.examples.specs.Probes.{look, steps_right, right}
use Rattle.examples.specs.Cases.{cases}
use Rattle.examples.specs.Errors.{errors}
use Rattle.examples.specs.Refusals.{refusals}
use Rattle.examples.specs.Effects.{effects}
use Rattle.examples.specs.Ticks.{ticking}
use Rattle.examples.specs.WrongTicks.{p7_tells_apart}
use Rattle.examples.specs.Edges.{edges}
use Rattle.examples.specs.Replays.{plays_right, replays}
use Rattle.examples.specs.Busy.{busy}
use Rattle.examples.specs.Waits.{sound_waiting, waits}
use Rattle.examples.specs.Damages.{breaks_only, break_each, damages, undamaged}
use Rattle.examples.specs.Stored.{disorders, refused_stored}
use Rattle.examples.specs.Images.{offsets, told_offsets, broken_links, disorderly, full_list, overfull_list, right_links}

pub cases_hold : every right cases ≡ true
unfolding model cases right steps_right look
cases_hold = refl

pub edges_hold : every right edges ≡ true
unfolding model edges errors refusals effects ticking right steps_right look
edges_hold = refl

-- a tick with its steps in another order fails P7
pub p7_shuts_out : p7_tells_apart ≡ true
unfolding model p7_tells_apart
p7_shuts_out = refl

pub replays_hold : every plays_right replays ≡ true
unfolding model replays plays_right
replays_hold = refl

-- soundness: what is sound, and for each clause what breaks it and no other
pub undamaged-sound : every sound undamaged ≡ true
unfolding model undamaged busy
undamaged-sound = refl

pub waits-sound : every sound_waiting waits ≡ true
unfolding model waits sound_waiting
waits-sound = refl

pub damages_refused : every breaks_only damages ≡ true
unfolding model damages breaks_only busy
damages_refused = refl

pub damages_complete : break_each damages ≡ true
unfolding model damages break_each busy
damages_complete = refl

-- stored it is sound too, and a list out of order is refused
pub busy_stored_sound : sound_table (lay_table busy) (lay_rows busy) ≡ true
unfolding model busy
busy_stored_sound = refl

pub disorders_refused : every refused_stored disorders ≡ true
unfolding model disorders refused_stored busy
disorders_refused = refl

-- the image: where its parts lie, a fresh one, the busy table's, which is sound too, and wrong links and lengths, which are refused
pub offsets-told : offsets ≡ told_offsets
offsets-told = refl

pub fresh-laid : lay fresh ≡ set (replicate image_length 0) 5 nobody
unfolding model
fresh-laid = refl

pub busy_image_sound : sound_image (lay busy) ≡ true
unfolding model busy
busy_image_sound = refl

pub broken_links_refused : every disorderly broken_links ≡ true
unfolding model broken_links disorderly busy
broken_links_refused = refl

pub full_list-right : right_links full_list ≡ true
unfolding model full_list right_links
full_list-right = refl

pub overfull_list_wrong : right_links overfull_list ≡ false
unfolding model full_list overfull_list right_links
overfull_list_wrong = refl
