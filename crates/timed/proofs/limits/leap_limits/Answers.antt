use Rattle.std.proofs.Common.{ℕ, ◌-◌, min, sym, ap, ◌∙◌, arith}
use Rattle.model.specs.State.{absent_thread}
use Rattle.layout.proofs.Viewed.{many-threads}
use Rattle.theorems.specs.Leap.{limit_leap}
use Rattle.timed.proofs.Walking.{Turn, walking_start, walking_next, walking_all}
use Rattle.timed.proofs.LimitWalk.{threads, limit, limit-idle, limit_ends, limit_runs, limited-next}
use Rattle.timed.proofs.limits.leap_limits.Goals as goal
use Rattle.timed.proofs.limits.leap_limits.Goals.{then-x-ticks, else-x-ticks}

pub loop-i-init : goal.loop-i-init
loop-i-init c =
    let a = c.args in
    let m = c.requires.ticks_nonzero in
    let f = m.2 in (
      walking_start (limit_leap a.ticks) threads limit absent_thread (limit-idle a.ticks m.0) a.image.now a.from a.end c.requires.whole
          f.order f.before f.behind,
      m.1,
    )

pub loop-i-preserved : goal.loop-i-preserved
loop-i-preserved c =
    let after = c.if-x-ticks in
    let l = c.loop-i in
    let ticks = c.args.ticks in
    let turn : Turn (limit_leap ticks l.i) threads limit absent_thread l.i l.image l.moved after.image after.moved after.x =
    elim after.branch [
      | then-x-ticks out ↦
          rw (out.image-is, out.moved-is, out.x-is)
          (limit_ends ticks l.i l.image l.moved (sym c.limit-x.ensures ∙ out.if-x-ticks.true) out.run_out.ensures)
      | else-x-ticks less ↦
          rw (less.image-is, less.moved-is, less.x-is)
          (limit_runs ticks l.i l.image l.moved (λ e. less.if-x-ticks.false (c.limit-x.ensures ∙ e)) l.invariant.0.whole
          (less.saturating_sub-x.ensures ∙ ap (λ (x : ℕ). x - ticks) c.limit-x.ensures) (omega arith) less.set_limit.ensures)
    ]
    in (
      walking_next (limit_leap ticks) threads limit absent_thread l.invariant.0 c.loop-i-test.true
          (omega (arith, many-threads l.image, c.loop-i-test.true, c.requires.ticks_nonzero.2.most)) turn
          (c.min-nearest.ensures ∙ ap (λ (x : ℕ). min x l.nearest) c.place.ensures),
      limited-next ticks l.i turn.does l.invariant.1,
    )

pub returns : goal.returns
returns c =
    let l = c.loop-i in
    let ticks = c.args.ticks in
    let all =
    walking_all (limit_leap ticks) threads limit absent_thread (limit-idle ticks c.requires.ticks_nonzero.0) l.invariant.0 16 c.requires.ticks_nonzero.2.most
    (omega (arith, c.loop-i-test.false))
    in record { image = all.0; nearest = all.1; unmoved = l.invariant.0.unmoved }
