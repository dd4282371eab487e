-- Where there is no limit at all no step does anything; else those before the first that still has one do nothing.
use Rattle.std.proofs.Common.{false, sym, subst}
use Rattle.model.specs.State.{absent_thread}
use Rattle.model.specs.Layout.{view}
use Rattle.rules.specs.Counting.{never}
use Rattle.theorems.specs.Leap.{limit_leap}
use Rattle.timed.specs.Running.{LimitsFrom}
use Rattle.timed.proofs.LimitWalk.{threads, limit, limit-idle}
use Rattle.timed.proofs.Onward.{onward-from, limits-onward}
use Rattle.timed.proofs.Walking.{Walking, walking_start, walking_all, unmoved_still}
use Rattle.timed.proofs.limits.fall_limits.Goals as goal

pub returns-then-end-from : goal.returns-then-end-from
returns-then-end-from c =
    let a = c.args in
    let b = a.image.now in
    let f = c.requires.ticks_nonzero.2 in
    let idle = limit-idle a.ticks c.requires.ticks_nonzero.0 in
    let w : Walking (limit_leap a.ticks) threads limit absent_thread a.end (view b) a.from b never false =
    walking_start (limit_leap a.ticks) threads limit absent_thread idle b a.from a.end c.requires.whole f.order f.before f.behind
    in
    let all = walking_all (limit_leap a.ticks) threads limit absent_thread idle w 16 f.most c.if-end-from.true in record { image = all.0; nearest = all.1; unmoved = λ e. unmoved_still (view b); from = f }

pub returns : goal.returns
returns c =
    let walked = c.leap_limits-walk.ensures in record {
      image = walked.image;
      nearest = walked.nearest;
      unmoved = walked.unmoved;
      from = subst (LimitsFrom c.limits_begin-from.result c.args.end) (sym walked.image.view)
          (onward-from (limits-onward c.args.ticks (view c.args.image.now)) c.limits_begin-from.ensures);
    }
