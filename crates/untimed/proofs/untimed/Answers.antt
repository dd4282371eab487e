-- The image after it is laid out as its view, and what is told of it is what the model tells.
use Rattle.model.specs.Layout.{view}
use Rattle.theorems.proofs.Outcomes.{told, no_ticks, whole-outcome}
use Rattle.untimed.proofs.Laid.{view-sound, sound-whole}
use Rattle.untimed.proofs.untimed.Goals as goal

pub answer-answer-requires : goal.answer-answer-requires
answer-answer-requires c = sound-whole c.args.image.now c.requires.image_value

pub returns : goal.returns
returns c =
    let s = view c.args.image.now in
    let q = c.args.q in
    let a = c.answer-answer.ensures in
    let fine = view-sound c.args.image.now c.requires.image_value in
    let whole = whole-outcome s q fine a c.carry_out.ensures.view in
    record {
      report = rw (whole, told s q fine a, ← no_ticks s q fine a c.requires.fact, c.told.ensures.report, c.next_wake_up-next.ensures);
      image = rw whole c.told.ensures.laid;
    }
