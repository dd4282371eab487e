-- The call is allowed, so the object's number is below 4 and its word fits; a new object moves nobody.
use mathlib.Core.Path.{refl}
use Prim.Native.Nat.{◌<◌, ◌≤◌}
use native.Mathlib.Omega.{arith}
use borrow.Author.Tests.{leb-true, leb-false, not-false}
use Rattle.sequences.proofs.Tests.{left}
use Rattle.model.specs.Ranges.{fits_16}
use Rattle.model.specs.Calls.{answers, unused_bcd}
use Rattle.model.specs.Effects.{create_flags_effect}
use Rattle.theorems.proofs.Allowing.{not-due}
use Rattle.words.proofs.Accepted.{unmoved_does}
use Rattle.serving.proofs.flags.create_flags.Goals as goal
use Rattle.serving.proofs.flags.create_flags.Goals.{Start}

below : (s : Start) → s.args.q.id < 4
unfolding answers
below s = leb-false 4 s.args.q.id (not-due s.requires.allowed 0 refl)

fits : (s : Start) → s.args.q.a ≤ 65535
unfolding answers
fits s =
    let q = s.args.q in
    leb-true q.a 65535
    (left (fits_16 q.a) (unused_bcd q) (not-false _ (not-due s.requires.allowed 1 refl)))

pub overflow_cast-x : goal.overflow_cast-x
overflow_cast-x c = let h = fits (goal.at.overflow_cast-x c).Start in omega arith

pub store-requires : goal.store-requires
store-requires c = below (goal.at.store-requires c).Start

pub returns : goal.returns
unfolding create_flags_effect
returns c = unmoved_does c.requires.whole c.store.ensures refl refl refl
