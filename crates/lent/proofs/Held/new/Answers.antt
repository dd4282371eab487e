-- An array of an image's length.
use mathlib.Core.Path.{ap}
use mathlib.Core.List.{List}
use Prim.Native.Nat.{ℕ}
use Rattle.lent.specs.declared.Held.{Held}
use Rattle.in_place.specs.Kept.{fresh_kept}
use Rattle.lent.proofs.Held.new.Goals as goal

abbrev holding : List ℕ → Held
holding b = record { image = b }

pub returns : goal.returns
unfolding fresh_kept
returns c = ap holding c.fresh.ensures.image
