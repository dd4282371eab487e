-- The call is allowed, so its object is there and its mask fits; the bits that word and mask share are at most the word.
use mathlib.Core.Path.{refl}
use Prim.Native.Nat.{◌<◌, ◌≤◌}
use native.Mathlib.Omega.{arith}
use borrow.Author.Tests.{not-false}
use Rattle.sequences.proofs.Tests.{left}
use Rattle.model.specs.Ranges.{is_positive_16}
use Rattle.model.specs.Calls.{answers, unused_bcd}
use Rattle.model.specs.Effects.{clear_effect}
use Rattle.model.specs.Before.{view}
use Rattle.rules.proofs.InRange.{positive_fits}
use Rattle.kernel.proofs.Facts.{whole, flags-named, not-due}
use Rattle.kernel.proofs.flags.clear.Goals as goal
use Rattle.kernel.proofs.flags.clear.Goals.{Start}

below : (s : Start) → s.args.q.id < 4
unfolding answers
below s = flags-named s.requires refl

mask_fits : (s : Start) → s.args.q.a ≤ 65535
unfolding answers
mask_fits s =
    let q = s.args.q in
    positive_fits q.a (left (is_positive_16 q.a) (unused_bcd q) (not-false _ (not-due s.requires 1 refl)))

pub overflow_cast-mask : goal.overflow_cast-mask
overflow_cast-mask c = let h = mask_fits (goal.at.overflow_cast-mask c).Start in omega arith

pub bounds-t-o : goal.bounds-t-o
bounds-t-o c = below (goal.at.bounds-t-o c).Start

pub change_word-requires : goal.change_word-requires
change_word-requires c = record { whole = whole c.requires; o_bound = below (goal.at.change_word-requires c).Start }

pub returns : goal.returns
unfolding clear_effect view
returns c = record { order = c.change_word.ensures.order; view = c.change_word.ensures.view }
