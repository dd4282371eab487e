use Rattle.std.proofs.Common.{arith}
use Rattle.sequences.proofs.Walks.{walk_all}
use Rattle.model.specs.State.{unused_timer}
use Rattle.model.specs.Before.{view}
use Rattle.theorems.specs.Leap.{timer_leap}
use Rattle.theorems.proofs.LeapPlaced.{timer_leap-placed}
use Rattle.time.proofs.Walking.{Turn, walking_start, walking_next}
use Rattle.time.proofs.TimerWalk.{timers, left, timers-behind, written_whole, timer_ends, timer_rests, timer_runs, armed-next}
use Rattle.time.proofs.timers.leap_timers.Goals as goal
use Rattle.time.proofs.timers.leap_timers.Goals.{then-x-gap+then-x, then-x-gap+else-x, else-x-gap}

pub loop-o-init : goal.loop-o-init
loop-o-init c = (c.requires.armed, walking_start (timer_leap c.args.gap) timers left 0 c.requires.whole)

pub act-u-requires-clause-whole : goal.act-u-requires-clause-whole
act-u-requires-clause-whole c = let l = c.loop-o in written_whole c.args.gap l.o l.u l.rows l.invariant.1.whole c.expired-y.ensures

pub loop-o-preserved : goal.loop-o-preserved
unfolding view
loop-o-preserved c =
    let l = c.loop-o in
    let below = c.loop-o-test.true in
    let gap = c.args.gap in
    let after = c.if-x-gap in
    let turn : Turn (timer_leap gap l.o) timers unused_timer l.o l.u l.rows after.u after.rows after.x =
    elim after.branch [
      | then-x-gap+then-x acts ↦
          rw (acts.u-is, acts.rows-is, acts.x-is)
          (timer_ends gap l.o l.u l.rows l.invariant.1.whole acts.expired-y.ensures acts.if-x-gap.true below acts.act-u.ensures)
      | then-x-gap+else-x rests ↦
          rw (rests.u-is, rests.rows-is, rests.x-is)
          (timer_rests gap l.o l.u l.rows l.invariant.1.whole rests.expired-y.ensures rests.if-x-gap.true below rests.if-x.false)
      | else-x-gap less ↦
          rw (less.u-is, less.rows-is, less.x-is)
          (timer_runs gap l.o l.u l.rows less.if-x-gap.false l.invariant.1.whole below less.saturating_sub.ensures)
    ]
    in (
      armed-next gap l.o l.u l.rows l.invariant.0 turn.does,
      walking_next (timer_leap gap) timers left 0 unused_timer l.invariant.1 turn (timer_leap-placed gap l.o)
          (timers-behind gap l.o (view l.u l.rows)) (omega (arith, below, turn.does.order.table.timers)) c.nearer.ensures,
    )

pub returns : goal.returns
unfolding view
returns c =
    let l = c.loop-o in
    let w = l.invariant.1 in
    let all = walk_all (timer_leap c.args.gap) timers left 0 _ w.walk 8 (omega (arith, c.loop-o-test.false)) (omega (arith, w.whole.order.table.timers)) in record { does = record { order = w.whole.order; view = all.0 }; soonest_after = all.1 }
