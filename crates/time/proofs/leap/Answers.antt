-- Part after part is the model's; what the walks found nearest holds to the end.
use Rattle.std.proofs.Common.{refl, ap, ◌∙◌}
use Rattle.model.specs.State.{State}
use Rattle.model.specs.Words.{settle}
use Rattle.model.specs.Before.{view}
use Rattle.table.proofs.Views.{and_then, same_word}
use Rattle.table.proofs.Rooms.{whole_then}
use Rattle.theorems.specs.Leap.{leap}
use Rattle.theorems.proofs.LeapPlaced.{quantum_leap-placed}
use Rattle.theorems.proofs.LeapKeeps.{timers-placed, quantum_leap-timers}
use Rattle.time.proofs.Found.{next_found}
use Rattle.time.proofs.leap.Goals as goal

pub leap_timers-third-requires : goal.leap_timers-third-requires
unfolding view
leap_timers-third-requires c =
    let by = c.args.gap.now in
    let turned = ap (λ (x : State). x.timers) c.quantum_leap-second.ensures.view ∙ quantum_leap-timers by (view c.args.t c.args.rows.now) in
    record {
      whole = whole_then (quantum_leap-placed by) c.quantum_leap-second.ensures c.requires.whole;
      armed = rw turned c.requires.gap_nonzero.1;
    }

pub leap_limits-fourth-requires : goal.leap_limits-fourth-requires
leap_limits-fourth-requires c =
    let by = c.args.gap.now in
    whole_then (timers-placed by) c.leap_timers-third.ensures.does
    (whole_then (quantum_leap-placed by) c.quantum_leap-second.ensures c.requires.whole)

pub returns : goal.returns
unfolding leap settle view
returns c =
    let l = c.leap_limits-fourth in
    let b = c.leap_timers-third in
    let a = c.quantum_leap-second in
    let gap = c.args.gap.now in
    record {
      does = same_word (leap gap) (and_then (and_then (and_then a.ensures b.ensures.does) l.ensures.does) c.choose-fifth.ensures) refl;
      gap_after = c.nearer.ensures
          ∙ next_found gap l.ensures.does c.choose-fifth.ensures b.ensures.soonest_after l.ensures.soonest_after
          (c.quantum_left-left.ensures l.new.rows c.choose-fifth.ensures.order);
    }
