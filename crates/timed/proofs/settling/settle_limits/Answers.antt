use Rattle.std.proofs.Common.{refl, arith}
use Rattle.model.specs.Parts.{with_limit}
use Rattle.words.proofs.Does.{rewritten_does}
use Rattle.timed.specs.Owed.{owed_limits}
use Rattle.timed.proofs.Settled.{limits, none_told, all_told, told-one, zero_passed}
use Rattle.timed.proofs.settling.settle_limits.Goals as goal
use Rattle.timed.proofs.settling.settle_limits.Goals.{then-x-ne0, else-x-ne0}

pub loop-i-init : goal.loop-i-init
loop-i-init c = none_told limits c.args.m c.args.from c.requires.whole c.requires.limits_from.before

pub loop-i-preserved : goal.loop-i-preserved
loop-i-preserved c =
    let l = c.loop-i in
    let m = c.args.m in
    let read = c.limit-x.ensures in
    elim c.if-x-ne0.branch [
      | then-x-ne0 set ↦
          let less = set.saturating_sub in
          let does = rewritten_does l.i (with_limit less.result) l.invariant.whole set.set_limit.ensures (λ t₁. refl) in
          rw set.image-is (told-one limits m l.i l.invariant read less.ensures does)
      | else-x-ne0 passed ↦ rw passed.image-is (zero_passed limits m l.i l.invariant read passed.if-x-ne0.false)
    ]

pub returns : goal.returns
unfolding owed_limits
returns c =
    let l = c.loop-i in
    all_told limits c.args.m l.i l.invariant (λ i h. c.requires.limits_from.behind i (omega (arith, h, c.loop-i-test.false)))
