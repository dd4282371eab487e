-- A sound image is one that words can be said of; and an image that words can be said of is the layout of its view, so that what is done to the
-- view tells every byte.
use mathlib.Core.Path.{◌≡◌, sym}
use mathlib.Core.Bool.{true}
use mathlib.Core.List.{List}
use Prim.Native.Nat.{ℕ}
use borrow.Author.Tests.{eq-eqb, eqb-true}
use lib.Dec.{eqb}
use lib.ListN.{length}
use Rattle.sequences.specs.Bytes.{Bytes}
use Rattle.sequences.specs.Links.{orderly_links}
use Rattle.sequences.proofs.LinksOrderly.{test_true, test_passes}
use Rattle.sequences.proofs.Tests.{left, right, both}
use Rattle.model.specs.State.{thread_count}
use Rattle.model.specs.Sound.{sound_but_choice, choice_fits, sound}
use Rattle.model.specs.Layout.{view, lay, orderly, sound_image, links_part, linked_lists, image_length}
use Rattle.placed.proofs.Sounds.{sound-placed}
use Rattle.layout.proofs.Images.{lay-view}
use Rattle.words.specs.Images.{Whole}

module _ (b : List ℕ) (e : sound_image b ≡ true) where
  pub view-sound : sound (view b) ≡ true
  unfolding sound_image
  view-sound = right (orderly b) (sound (view b)) e

  in_order : orderly b ≡ true
  unfolding sound_image
  in_order = left (orderly b) (sound (view b)) e

  pub sound-whole : Whole b
  unfolding orderly sound
  sound-whole =
      let links = orderly_links thread_count linked_lists (links_part b) in
      record {
        size = eqb-true (length b) image_length (left (eqb (length b) image_length) links in_order);
        links = test_true thread_count linked_lists (links_part b) (right (eqb (length b) image_length) links in_order);
        placed = sound-placed (view b) (left (sound_but_choice (view b)) (choice_fits (view b)) view-sound);
      }

whole-orderly : {b : List ℕ} → Whole b → orderly b ≡ true
unfolding orderly
whole-orderly {b} w = both (eq-eqb (length b) image_length w.size) (test_passes thread_count linked_lists (links_part b) w.links)

pub laid : {b : List ℕ} → Whole b → Bytes b → b ≡ lay (view b)
laid {b} w bytes = sym (lay-view b bytes (whole-orderly w))
