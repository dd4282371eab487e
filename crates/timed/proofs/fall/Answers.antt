-- Step after step; what each asks of the table holds after the ones before it.
use Rattle.std.proofs.Common.{◌≡◌, ℕ, ◌+◌, min, false, ◌||◌, eqb, sym, refl, ap, ◌∙◌, subst, ap₂}
use borrow.Author.Tests.{eqb-false}
use Rattle.sequences.specs.Lists.{nearest, nearer}
use Rattle.sequences.specs.Steps.{in_order}
use Rattle.sequences.proofs.Tests.{neither}
use Rattle.model.specs.State.{State, timer_count, thread_count}
use Rattle.model.specs.Words.{settle, choose}
use Rattle.model.specs.Layout.{view}
use Rattle.rules.specs.Counting.{place}
use Rattle.rules.proofs.Nearness.{nearer-fits, nearer-place}
use Rattle.theorems.specs.Leap.{quantum_leap, timer_leap, limit_leap}
use Rattle.words.specs.Images.{Does}
use Rattle.words.proofs.Does.{and_then, same_word}
use Rattle.timed.specs.Ahead.{Falls, Unchanged, fall}
use Rattle.timed.specs.Armed.{Armed}
use Rattle.timed.specs.Counters.{times, limits, nearest_counter}
use Rattle.timed.specs.Limited.{Limited}
use Rattle.timed.specs.Running.{TimersTo, LimitsFrom}
use Rattle.timed.specs.Unmoved.{Unmoved}
use Rattle.timed.proofs.Onward.{Onward, onward_both, onward-limited, onward-from, quantum-onward, timers-onward, choose-onward}
use Rattle.timed.proofs.Resting.{walked_nearest}
use Rattle.timed.proofs.Steps.{quantum-armed, quantum-timers_to, unchanged}
use Rattle.timed.proofs.Using.{counts_on}
use Rattle.timed.proofs.Walking.{unmoved_then}
use Rattle.timed.proofs.fall.Goals as goal
use Rattle.timed.proofs.fall.Goals.{After-fall_limits-limited, After-leap_timers-timed}

-- after the timers
module _ (c : After-leap_timers-timed) where
  abbrev v : State
  v = view c.args.image.now

  abbrev gap : ℕ
  gap = c.args.until + 1

  abbrev fallen : Falls c.args.until c.args.quantum v
  fallen = c.requires.falls.0

  both : Does c.args.image.now (λ x. in_order timer_count (timer_leap c.args.ticks) (quantum_leap gap x)) c.leap_timers-timed.new.image
  both = and_then c.use_quantum.ensures c.leap_timers-timed.ensures.image

  onward : Onward v (in_order timer_count (timer_leap c.args.ticks) (quantum_leap gap v))
  onward =
      onward_both (quantum-onward gap v c.requires.whole.placed (λ h. fallen.chosen (counts_on v h))) (timers-onward c.args.ticks (quantum_leap gap v))

-- after the limits
still : (c : After-fall_limits-limited)
    → (eqb c.args.quantum c.args.until || c.leap_timers-timed.result.moved) || c.fall_limits-limited.result.walk.moved ≡ false
    → Unchanged c.args.until c.args.quantum (view c.fall_limits-limited.new.image)
still c e =
    let late = neither _ _ e in
    let early = neither _ _ late.0 in
    unchanged c.args.until c.args.quantum (view c.args.image.now) c.requires.falls.0 (eqb-false _ _ early.0)
    (subst (λ (x : State). Unmoved x (view c.fall_limits-limited.new.image)) c.use_quantum.ensures.view
    (unmoved_then (c.leap_timers-timed.ensures.unmoved early.1) (c.fall_limits-limited.ensures.unmoved late.1)))

pub leap_timers-timed-requires : goal.leap_timers-timed-requires
leap_timers-timed-requires c =
    let v = view c.args.image.now in
    let gap = c.args.until + 1 in
    let f = c.requires.falls.0 in
    let e = c.use_quantum.ensures in record { whole = e.whole; ticks_nonzero = (c.requires.falls.1, subst Armed (sym e.view) (quantum-armed gap v f.armed), subst (TimersTo c.args.reach.stop) (sym e.view) (quantum-timers_to c.args.reach.stop gap v c.requires.within.timers)) }

pub fall_limits-limited-requires : goal.fall_limits-limited-requires
fall_limits-limited-requires c =
    record {
      whole = (both (goal.at.fall_limits-limited-requires c).After-leap_timers-timed).whole;
      ticks_nonzero = (
        c.requires.falls.1,
        subst Limited (sym (both (goal.at.fall_limits-limited-requires c).After-leap_timers-timed).view) (onward-limited (onward (goal.at.fall_limits-limited-requires c).After-leap_timers-timed) (fallen (goal.at.fall_limits-limited-requires c).After-leap_timers-timed).limited),
        subst (LimitsFrom c.args.reach.from c.args.reach.end) (sym (both (goal.at.fall_limits-limited-requires c).After-leap_timers-timed).view) (onward-from (onward (goal.at.fall_limits-limited-requires c).After-leap_timers-timed) c.requires.within.limits),
      );
    }

pub choose_anew-later-requires : goal.choose_anew-later-requires
choose_anew-later-requires c = record { whole = c.fall_limits-limited.ensures.image.whole; unchanged = still (goal.at.choose_anew-later-requires c).After-fall_limits-limited }

pub returns : goal.returns
unfolding fall settle
returns c =
    let t = (goal.at.returns c).After-leap_timers-timed in
    let walked = c.fall_limits-limited.ensures in
    let chosen = c.choose_anew-later.ensures in
    let all = and_then (and_then (both t) walked.image) chosen.image in
    let near = c.leap_timers-timed.ensures.nearest in
    let seen : view c.choose_anew-later.new.image ≡ choose (in_order thread_count (limit_leap c.args.ticks) (view c.leap_timers-timed.new.image))
    = chosen.image.view ∙ ap choose walked.image.view
    in
    let first
    = ap nearest_counter seen
    ∙ walked_nearest c.args.ticks (view c.leap_timers-timed.new.image)
    ∙ ap (λ (x : State). nearer (nearest (times (view c.leap_timers-timed.new.image))) (nearest (limits x))) (sym walked.image.view)
    in record {
      image = same_word all (fall (gap t) c.args.ticks) refl;
      ahead = record {
        due =
            record {
              fits = rw first (nearer-fits _ _ near.fits walked.nearest.fits);
              at = c.min-due.ensures ∙ ap₂ min near.at walked.nearest.at ∙ nearer-place _ _ near.fits walked.nearest.fits ∙ ap place (sym first);
            };
        quantum = chosen.quantum;
      };
      from = subst (LimitsFrom c.fall_limits-limited.result.from c.args.reach.end) (sym chosen.image.view) (onward-from (choose-onward (view c.fall_limits-limited.new.image)) walked.from);
    }
