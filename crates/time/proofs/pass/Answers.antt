use Rattle.std.proofs.Common.{◌≤◌, ◌<◌, ◌^◌, refl, inl, inr, arith, rules}
use Rattle.sequences.specs.Jumps.{Free}
use Rattle.sequences.proofs.Tests.{right}
use Rattle.model.specs.Sound.{sound}
use Rattle.model.specs.Before.{view, orderly, sound_table}
use Rattle.table.proofs.Stored.{sound-whole}
use Rattle.time.proofs.Passing.{passing_start, passing_whole, passing_armed, passing_room, passing_turn, passed}
use Rattle.time.proofs.pass.Goals as goal
use Rattle.time.proofs.pass.Goals.{Start, then-loop-gap-test+else-gap-left, else-loop-gap-test}

-- so many wake-ups have room where the ticks have
width : (s : Start) → s.args.n < 2 ^ 32
width s = search rules

pub next_wake_up-gap-requires : goal.next_wake_up-gap-requires
next_wake_up-gap-requires c = (c.args.rows.now, (sound-whole c.requires).order)

pub loop-gap-init : goal.loop-gap-init
loop-gap-init c =
    let rows = c.args.rows.now in
    passing_start c.args.t rows c.requires c.args.n (c.next_wake_up-gap.ensures rows (sound-whole c.requires).order)

pub overflow_add-woken : goal.overflow_add-woken
overflow_add-woken c =
    let reached : c.loop-gap.gap ≤ c.loop-gap.left = omega (arith, c.if-gap-left.true) in
    omega (arith, passing_room c.loop-gap.invariant c.loop-gap-test.true reached, width (goal.at.overflow_add-woken c).Start)

pub leap-u-requires : goal.leap-u-requires
leap-u-requires c =
    let l = c.loop-gap in record { whole = passing_whole l.invariant; gap_nonzero = (c.loop-gap-test.true, passing_armed l.invariant) }

pub loop-gap-preserved : goal.loop-gap-preserved
loop-gap-preserved c =
    let reached : c.loop-gap.gap ≤ c.loop-gap.left = omega (arith, c.if-gap-left.true) in
    passing_turn c.loop-gap.invariant c.loop-gap-test.true reached c.leap-u.ensures.does c.leap-u.ensures.gap_after

pub skip-quiet-requires : goal.skip-quiet-requires
skip-quiet-requires c = let l = c.loop-gap in (l.rows, passing_whole l.invariant)

pub with_clock-moved-requires : goal.with_clock-moved-requires
with_clock-moved-requires c =
    let l = c.loop-gap in
    (c.skip-quiet.ensures l.rows (passing_whole l.invariant)).order.table

pub returns : goal.returns
unfolding sound_table view
returns c =
    let l = c.loop-gap in
    let t = c.args.t in
    let rows = c.args.rows.now in
    let free : Free l.left l.gap =
    elim c.loop-gap-test.branch [
      | then-loop-gap-test+else-gap-left w ↦ inr (omega (arith, w.if-gap-left.false))
      | else-loop-gap-test w ↦ inl (omega (arith, w.loop-gap-test.false))
    ]
    in
    let all = passed l.invariant (right (orderly t rows) (sound (view t rows)) c.requires) free
    (c.skip-quiet.ensures l.rows (passing_whole l.invariant)) c.with_clock-moved.ensures refl in record { does = record { order = all.0.order; view = all.0.view }; wakeups_value = all.1 }
