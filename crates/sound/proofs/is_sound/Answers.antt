-- Bytes of another length are no image.
use mathlib.Core.Path.{◌≡◌}
use mathlib.Core.Bool.{false}
use mathlib.Core.List.{List}
use Prim.Native.Nat.{ℕ}
use borrow.Author.Tests.{ne_eqb}
use lib.ListN.{length}
use Rattle.model.specs.Layout.{orderly, sound_image}
use Rattle.sound.proofs.is_sound.Goals as goal

wrong_length : (b : List ℕ) → (length b ≡ 562 → ⊥) → false ≡ sound_image b
unfolding sound_image orderly
wrong_length b n = rw (ne_eqb (length b) 562 n)

pub returns-in-Err : goal.returns-in-Err
returns-in-Err c = wrong_length _ c.in-Err.ensures.1
