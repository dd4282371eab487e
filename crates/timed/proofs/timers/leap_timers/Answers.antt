use Rattle.std.proofs.Common.{ℕ, ◌-◌, min, sym, ap, ◌∙◌, arith}
use Rattle.model.specs.declared.tables.Timer.{Timer}
use Rattle.model.specs.State.{unused_timer}
use Rattle.layout.proofs.Viewed.{many_timers}
use Rattle.theorems.specs.Leap.{timer_leap}
use Rattle.timed.proofs.Walking.{Turn, walking_start, walking_next, walking_all}
use Rattle.timed.proofs.TimerWalk.{timers, left, timer-idle, expired-whole, expired_kind, expired-armed, timer_acts, timer_rests, timer_runs, armed-next}
use Rattle.timed.proofs.timers.leap_timers.Goals as goal
use Rattle.timed.proofs.timers.leap_timers.Goals.{then-x-ticks+then-t, then-x-ticks+else-t, else-x-ticks}

pub loop-o-init : goal.loop-o-init
loop-o-init c =
    let b = c.args.image.now in (
      c.requires.ticks_nonzero.1,
      walking_start (timer_leap c.args.ticks) timers left unused_timer (timer-idle c.requires.ticks_nonzero.0) b 0 c.args.end c.requires.whole (omega arith)
          (λ k h. absurd (omega arith)) c.requires.ticks_nonzero.2.behind,
    )

pub act-requires : goal.act-requires
act-requires c =
    let l = c.loop-o in
    let a = c.expire-x.ensures.image in
    let kind = expired_kind l.o l.image a ∙ ap (λ (y : Timer). y.kind) (sym c.timer-t.ensures) in record {
      whole = expired-whole l.o l.invariant.1.whole a;
      o_bound = (
        omega (arith, c.loop-o-test.true, c.requires.ticks_nonzero.2.most),
        expired-armed l.o l.image a l.invariant.0 l.o,
        omega (arith, kind, c.if-t.true),
      );
    }

pub loop-o-preserved : goal.loop-o-preserved
loop-o-preserved c =
    let after = c.if-x-ticks in
    let l = c.loop-o in
    let ticks = c.args.ticks in
    let turn : Turn (timer_leap ticks l.o) timers left unused_timer l.o l.image l.moved after.image after.moved after.x =
    elim after.branch [
      | then-x-ticks+then-t acts ↦
          rw (acts.image-is, acts.moved-is, acts.x-is)
          (timer_acts ticks l.o l.image l.invariant.1.whole acts.expire-x.ensures.image acts.timer-t.ensures
          (sym c.left-x.ensures ∙ acts.if-x-ticks.true) acts.expire-x.ensures.left (omega arith) l.moved acts.act.ensures)
      | then-x-ticks+else-t rests ↦
          rw (rests.image-is, rests.moved-is, rests.x-is)
          (timer_rests ticks l.o l.image l.invariant.1.whole rests.expire-x.ensures.image rests.timer-t.ensures
          (sym c.left-x.ensures ∙ rests.if-x-ticks.true) rests.expire-x.ensures.left (omega arith) l.moved rests.if-t.false)
      | else-x-ticks runs ↦
          rw (runs.image-is, runs.moved-is, runs.x-is)
          (timer_runs ticks l.o l.image l.moved l.invariant.1.whole runs.set_left.ensures (λ e. runs.if-x-ticks.false (c.left-x.ensures ∙ e))
          (runs.saturating_sub-x.ensures ∙ ap (λ (x : ℕ). x - ticks) c.left-x.ensures) (omega arith))
    ]
    in (
      armed-next ticks l.o l.image l.invariant.0 turn.does,
      walking_next (timer_leap ticks) timers left unused_timer l.invariant.1 c.loop-o-test.true
          (omega (arith, many_timers l.image, c.loop-o-test.true, c.requires.ticks_nonzero.2.most)) turn
          (c.min-nearest.ensures ∙ ap (λ (p : ℕ). min p l.nearest) c.place.ensures),
    )

pub returns : goal.returns
returns c =
    let l = c.loop-o in
    let w = l.invariant.1 in
    let all = walking_all (timer_leap c.args.ticks) timers left unused_timer (timer-idle c.requires.ticks_nonzero.0) w 8 c.requires.ticks_nonzero.2.most
    (omega (arith, c.loop-o-test.false)) in record { image = all.0; nearest = all.1; unmoved = w.unmoved }
