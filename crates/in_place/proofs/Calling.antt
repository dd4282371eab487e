-- A call on a sound image is the model's call on what is read off it, laid out again; and a sound image of bytes is what is read off it, laid
-- out. So what holds of the model's calls holds of the code's.
use mathlib.Core.Path.{◌≡◌, sym, ◌∙◌, ap}
use mathlib.Core.Bool.{true}
use mathlib.Core.List.{List}
use Prim.Native.Nat.{ℕ}
use Rattle.sequences.specs.Bytes.{Bytes}
use Rattle.model.specs.declared.requests.Request.{Request}
use Rattle.model.specs.Sound.{sound}
use Rattle.model.specs.Kernel.{call}
use Rattle.model.specs.Layout.{view, lay, sound_image}
use Rattle.layout.proofs.Images.{view-lay}
use Rattle.theorems.proofs.Demand2.{sound-call}
use Rattle.untimed.proofs.Laid.{view-sound, sound-whole, laid}
use Rattle.in_place.specs.Kept.{told, kept}

module _ (b : List ℕ) (whole : sound_image b ≡ true) where
  pub sound-laid : Bytes b → lay (view b) ≡ b
  sound-laid bytes = sym (laid (sound-whole b whole) bytes)

  module _ (q : Request) where
    pub told-sound : told b q ≡ (call (view b) q).report
    unfolding told
    told-sound = rw whole

    pub kept-laid : kept b q ≡ lay (call (view b) q).after
    unfolding kept
    kept-laid = rw whole

    pub after-sound : sound (call (view b) q).after ≡ true
    after-sound = sound-call (view b) q (view-sound b whole)

    pub view-kept : view (kept b q) ≡ (call (view b) q).after
    view-kept = ap view kept-laid ∙ view-lay (call (view b) q).after after-sound
