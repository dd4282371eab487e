-- First the timers, which leaves the threads as they were, then the limits.
use Rattle.std.proofs.Common.{ℕ, List, sym, subst}
use Rattle.model.specs.Layout.{view}
use Rattle.words.specs.Images.{Does}
use Rattle.words.proofs.Does.{and_then}
use Rattle.timed.specs.Owed.{owed_times, owed}
use Rattle.timed.specs.Running.{LimitsFrom}
use Rattle.timed.proofs.settling.settle.Goals as goal

still-limits : (m : ℕ) {from end : ℕ} (b : List ℕ) {r : List ℕ} → Does b (owed_times m) r → LimitsFrom from end (view b)
    → LimitsFrom from end (view r)
unfolding owed_times
still-limits m {from} {end} b d l =
    subst (LimitsFrom from end) (sym d.view) (record { order = l.order; most = l.most; before = l.before; behind = l.behind })

pub settle_limits-requires : goal.settle_limits-requires
settle_limits-requires c =
    let d = c.settle_timers.ensures in record { whole = d.whole; limits_from = still-limits c.args.m c.args.image.now d c.requires.within.limits }

pub returns : goal.returns
unfolding owed
returns c =
    and_then c.settle_timers.ensures c.settle_limits.ensures
