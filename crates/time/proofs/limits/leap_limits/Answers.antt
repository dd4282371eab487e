use Rattle.std.proofs.Common.{arith}
use Rattle.sequences.proofs.Walks.{walk_all}
use Rattle.model.specs.State.{absent_thread}
use Rattle.model.specs.Before.{view}
use Rattle.theorems.specs.Leap.{limit_leap}
use Rattle.theorems.proofs.LeapPlaced.{limit_leap-placed}
use Rattle.time.proofs.Walking.{Turn, walking_start, walking_next}
use Rattle.time.proofs.LimitWalk.{threads, limit, threads-behind, limit_ends, limit_runs}
use Rattle.time.proofs.limits.leap_limits.Goals as goal
use Rattle.time.proofs.limits.leap_limits.Goals.{then-x-gap, else-x-gap}

pub loop-i-init : goal.loop-i-init
loop-i-init c = walking_start (limit_leap c.args.gap) threads limit c.args.soonest.now c.requires

pub loop-i-preserved : goal.loop-i-preserved
unfolding view
loop-i-preserved c =
    let l = c.loop-i in
    let below = c.loop-i-test.true in
    let gap = c.args.gap in
    let after = c.if-x-gap in
    let turn : Turn (limit_leap gap l.i) threads absent_thread l.i l.u l.rows after.u after.rows after.x =
    elim after.branch [
      | then-x-gap out ↦ rw (out.u-is, out.rows-is, out.x-is) (limit_ends gap l.i l.u l.rows out.if-x-gap.true out.run_out-u.ensures)
      | else-x-gap less ↦
          rw (less.u-is, less.rows-is, less.x-is) (limit_runs gap l.i l.u l.rows less.if-x-gap.false l.invariant.whole below less.saturating_sub.ensures)
    ]
    in
    walking_next (limit_leap gap) threads limit c.args.soonest.now absent_thread l.invariant turn (λ s₁. limit_leap-placed gap l.i s₁ below)
    (threads-behind gap l.i (view l.u l.rows)) (omega (arith, below, turn.does.order.table.threads)) c.nearer.ensures

pub returns : goal.returns
unfolding view
returns c =
    let l = c.loop-i in
    let w = l.invariant in
    let all = walk_all (limit_leap c.args.gap) threads limit c.args.soonest.now _ w.walk 16 (omega (arith, c.loop-i-test.false)) (omega (arith, w.whole.order.table.threads)) in record { does = record { order = w.whole.order; view = all.0 }; soonest_after = all.1 }
