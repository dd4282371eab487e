use Rattle.std.proofs.Common.{refl, arith}
use Rattle.words.proofs.Accepted.{unmoved_does}
use Rattle.timed.specs.Owed.{owed_times}
use Rattle.timed.proofs.Settled.{times, none_told, all_told, told-one, zero_passed}
use Rattle.timed.proofs.settling.settle_timers.Goals as goal
use Rattle.timed.proofs.settling.settle_timers.Goals.{then-x-ne0, else-x-ne0}

pub loop-o-init : goal.loop-o-init
loop-o-init c = none_told times c.args.m 0 c.requires.whole (λ o h. absurd (omega arith))

pub loop-o-preserved : goal.loop-o-preserved
loop-o-preserved c =
    let l = c.loop-o in
    let m = c.args.m in
    let read = c.left-x.ensures in
    elim c.if-x-ne0.branch [
      | then-x-ne0 set ↦
          let does = unmoved_does l.invariant.whole set.set_left.ensures refl refl refl in
          rw set.image-is (told-one times m l.o l.invariant read set.saturating_sub.ensures does)
      | else-x-ne0 passed ↦ rw passed.image-is (zero_passed times m l.o l.invariant read passed.if-x-ne0.false)
    ]

pub returns : goal.returns
unfolding owed_times
returns c =
    let l = c.loop-o in
    all_told times c.args.m l.o l.invariant (λ o h. c.requires.timers_to.behind o (omega (arith, h, c.loop-o-test.false)))
