-- The mark is asked for as a bit, and stored the other way round.
use mathlib.Core.Path.{refl}
use mathlib.Core.Bool.{◌&&◌}
use Prim.Native.Nat.{◌≤◌}
use native.Mathlib.Omega.{arith}
use borrow.Author.Tests.{leb-true, not-false}
use Rattle.sequences.proofs.Tests.{left, right}
use Rattle.model.specs.Ranges.{is_bit}
use Rattle.model.specs.Calls.{answers, unused_id, unused_bcd}
use Rattle.model.specs.Effects.{scheduling_effect}
use Rattle.theorems.proofs.Allowing.{not-due}
use Rattle.words.proofs.Accepted.{unmoved_does}
use Rattle.effects.proofs.scheduling.scheduling.Goals as goal
use Rattle.effects.proofs.scheduling.scheduling.Goals.{Start}

bit : (s : Start) → s.args.q.a ≤ 1
unfolding answers
bit s =
    let q = s.args.q in
    leb-true q.a 1
    (right (unused_id q) (is_bit q.a)
    (left (unused_id q && is_bit q.a) (unused_bcd q) (not-false _ (not-due s.requires.allowed 0 refl))))

pub overflow_sub-q : goal.overflow_sub-q
overflow_sub-q c = let h = bit (goal.at.overflow_sub-q c).Start in omega (arith, h)

pub returns : goal.returns
unfolding scheduling_effect
returns c =
    unmoved_does c.requires.whole c.set_off.ensures refl refl refl
