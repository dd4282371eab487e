-- The call is allowed, so the object's number is below 4 and its word fits.
use mathlib.Core.Path.{refl}
use Prim.Native.Nat.{◌<◌, ◌≤◌}
use native.Mathlib.Omega.{arith}
use borrow.Author.Tests.{leb-true, leb-false, not-false}
use Rattle.sequences.proofs.Tests.{left}
use Rattle.model.specs.Ranges.{fits_16}
use Rattle.model.specs.Calls.{answers, unused_bcd}
use Rattle.model.specs.Effects.{create_flags_effect}
use Rattle.kernel.proofs.Facts.{whole, not-due}
use Rattle.kernel.proofs.flags.create_flags.Goals as goal
use Rattle.kernel.proofs.flags.create_flags.Goals.{Start}

below : (s : Start) → s.args.q.id < 4
unfolding answers
below s = leb-false 4 s.args.q.id (not-due s.requires.1 0 refl)

fits : (s : Start) → s.args.q.a ≤ 65535
unfolding answers
fits s =
    let q = s.args.q in
    leb-true q.a 65535
    (left (fits_16 q.a) (unused_bcd q) (not-false _ (not-due s.requires.1 1 refl)))

pub overflow_cast-x : goal.overflow_cast-x
overflow_cast-x c = let h = fits (goal.at.overflow_cast-x c).Start in omega arith

pub with_flags-requires : goal.with_flags-requires
with_flags-requires c = record { orderly_table = (whole c.requires.1).order.table; o_bound = below (goal.at.with_flags-requires c).Start }

pub returns : goal.returns
unfolding create_flags_effect
returns c = c.with_flags.ensures
