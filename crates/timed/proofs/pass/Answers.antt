use Rattle.std.proofs.Common.{ℕ, ◌+◌, ◌-◌, ◌%◌, ◌^◌, min, sym, refl, ap, ◌∙◌, subst, ap₂, arith}
use Rattle.sequences.specs.Jumps.{Free}
use Rattle.model.specs.State.{State}
use Rattle.model.specs.Layout.{view}
use Rattle.rules.specs.Counting.{place}
use Rattle.rules.proofs.Nearness.{nearer-fits, nearer-place}
use Rattle.theorems.specs.Leap.{spend}
use Rattle.placed.proofs.Standing.{unmoved_placed}
use Rattle.words.proofs.Does.{and_then, altered_does}
use Rattle.untimed.proofs.Laid.{view-sound, sound-whole}
use Rattle.timed.specs.Counters.{Due, nearest_counter}
use Rattle.timed.specs.Running.{TimersTo, LimitsFrom}
use Rattle.timed.proofs.Passing.{passing_start, passing_falls, passing_fall, passing_turn, turn_counts, turn_chosen, rest_counters, passing_room, passed, passed-next}
use Rattle.timed.proofs.Using.{spend-nearest, spend-timers_to, spend-limits-from}
use Rattle.timed.proofs.pass.Goals as goal

pub quantum_left-requires : goal.quantum_left-requires
quantum_left-requires c =
    sound-whole c.args.image.now c.requires

pub loop-left-init : goal.loop-left-init
loop-left-init c =
    let l = c.nearest_limit-limit.ensures in
    let t = c.nearest_timer-timer.ensures in
    let left = c.quantum_left.ensures in
    passing_start c.args.image.now c.requires (omega arith)
    (record {
      due = record { fits = nearer-fits _ _ t.fits l.fits; at = c.min-due.ensures ∙ ap₂ min t.at l.at ∙ nearer-place _ _ t.fits l.fits };
      quantum = record { fits = omega (arith, left); at = c.place-quantum.ensures ∙ ap place left };
    })
    c.of-reach.ensures.timers c.of-reach.ensures.limits

pub overflow_add-woken : goal.overflow_add-woken
overflow_add-woken c =
    let p = c.loop-left.invariant in
    omega (arith, p.most, passing_room p (rw c.min-in-loop-left.ensures at c.loop-left-test.true))

pub fall-ahead-requires : goal.fall-ahead-requires
fall-ahead-requires c =
    let p = c.loop-left.invariant in record { whole = p.whole; falls = (passing_falls p c.if-until-quantum.true (omega arith), omega arith); within = record { timers = p.timers; limits = p.limits } }

pub loop-left-preserved-then-until-quantum : goal.loop-left-preserved-then-until-quantum
loop-left-preserved-then-until-quantum c =
    let e = c.fall-ahead.ensures in
    passing_fall c.loop-left.invariant c.if-until-quantum.true (omega arith) e.image e.ahead e.from

pub take_turns-quantum-requires : goal.take_turns-quantum-requires
take_turns-quantum-requires c =
    let p = c.loop-left.invariant in record { whole = p.whole; image_value = (turn_counts p (omega arith) (omega arith), turn_chosen p (omega arith) (omega arith)) }

pub loop-left-preserved : goal.loop-left-preserved
loop-left-preserved c =
    let e = c.take_turns-quantum.ensures in
    passing_turn c.loop-left.invariant (omega arith) (omega arith) e.image e.quantum

pub rest_counters-others-requires : goal.rest_counters-others-requires
rest_counters-others-requires c =
    let l = c.loop-left in
    let p = l.invariant in
    let v = view l.image in
    let seen = sym c.rest_quantum-own.ensures.image.view in
    let near = spend-nearest l.left v in
    let due : Due (spend l.left v) l.due = record { fits = rw near p.ahead.due.fits; at = p.ahead.due.at ∙ ap place (sym near) } in record {
      whole = c.rest_quantum-own.ensures.image.whole;
      due = (
        subst (λ (x : State). Due x l.due) seen due,
        subst (λ (x : State). Free (l.debt + l.left) (nearest_counter x)) seen (rw near (rest_counters p (omega arith) (omega arith))),
      );
      within =
          record {
            timers = subst (TimersTo l.reach.stop) seen (spend-timers_to l.left v p.timers);
            limits = subst (LimitsFrom l.reach.from l.reach.end) seen (spend-limits-from l.left v p.limits);
          };
    }

pub returns : goal.returns
returns c =
    let l = c.loop-left in
    let p = l.invariant in
    let b = c.args.image.now in
    let d = and_then c.rest_quantum-own.ensures.image c.rest_counters-others.ensures.image in
    let m = altered_does d.whole c.set_clock.ensures (unmoved_placed refl refl refl d.whole.placed) in
    let sum = ap (λ (x : ℕ). (x + c.args.n) % 2 ^ 32) c.clock.ensures in
    let all = passed p (omega arith) (omega arith) d m (view-sound b c.requires) sum in record {
      image = record { whole = all.0.whole; view = all.0.view };
      wakeups = all.1;
      next = c.nearer.ensures ∙ passed-next p (omega arith) (omega arith) d m c.rest_quantum-own.ensures.left
          (c.rest_counters-others.ensures.left ∙ ap (λ (x : State). nearest_counter x - (l.debt + l.left)) c.rest_quantum-own.ensures.image.view);
    }
