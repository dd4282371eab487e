-- The call is allowed, so its object is there and its mask fits.
use mathlib.Core.Path.{refl}
use Prim.Native.Nat.{◌<◌, ◌≤◌}
use native.Mathlib.Omega.{arith}
use borrow.Author.Tests.{not-false}
use Rattle.sequences.proofs.Tests.{left}
use Rattle.model.specs.Ranges.{is_positive_16}
use Rattle.model.specs.Calls.{answers, unused_bcd}
use Rattle.model.specs.Effects.{set_effect}
use Rattle.rules.proofs.InRange.{positive_fits}
use Rattle.theorems.proofs.Allowing.{flags-named, not-due}
use Rattle.serving.proofs.flags.set.Goals as goal
use Rattle.serving.proofs.flags.set.Goals.{Start}

below : (s : Start) → s.args.q.id < 4
unfolding answers
below s = flags-named s.requires.allowed refl

mask_fits : (s : Start) → s.args.q.a ≤ 65535
unfolding answers
mask_fits s =
    let q = s.args.q in
    positive_fits q.a (left (is_positive_16 q.a) (unused_bcd q) (not-false _ (not-due s.requires.allowed 1 refl)))

pub overflow_cast-q-2 : goal.overflow_cast-q-2
overflow_cast-q-2 c = let h = mask_fits (goal.at.overflow_cast-q-2 c).Start in omega arith

pub set_flags-requires : goal.set_flags-requires
set_flags-requires c = record { whole = c.requires.whole; o_bound = below (goal.at.set_flags-requires c).Start }

pub returns : goal.returns
unfolding set_effect
returns c = record { whole = c.set_flags.ensures.whole; view = c.set_flags.ensures.view }
