-- Bytes of another length are no image: nothing is told of them, and they stay.
use mathlib.Core.Path.{◌≡◌}
use mathlib.Core.Bool.{false}
use mathlib.Core.List.{List}
use Prim.Native.Nat.{ℕ}
use borrow.Author.Tests.{ne_eqb}
use lib.ListN.{length}
use Rattle.model.specs.declared.requests.Request.{Request}
use Rattle.model.specs.Layout.{orderly, sound_image}
use Rattle.rules.specs.Reports.{unsound_report}
use Rattle.in_place.specs.Kept.{told, kept, next_told}

module _ (b : List ℕ) (other : length b ≡ 562 → ⊥) where
  wrong_length : sound_image b ≡ false
  unfolding sound_image orderly
  wrong_length = rw (ne_eqb (length b) 562 other)

  pub told-other : (q : Request) → unsound_report ≡ told b q
  unfolding told
  told-other q = rw wrong_length

  pub kept-other : (q : Request) → b ≡ kept b q
  unfolding kept
  kept-other q = rw wrong_length

  pub next-other : unsound_report ≡ next_told b
  unfolding next_told
  next-other = rw wrong_length
