-- The links, and then what is asked pass by pass: `asked-sound` says that all of it is soundness.
use mathlib.Core.Path.{◌≡◌, sym, ◌∙◌}
use mathlib.Core.Bool.{Bool, true, false, ◌&&◌}
use mathlib.Core.List.{List}
use Prim.Native.Nat.{ℕ}
use lib.Dec.{eqb}
use lib.ListN.{length}
use Rattle.sequences.specs.Bytes.{Bytes}
use Rattle.sequences.specs.Links.{Orderly, orderly_links}
use Rattle.sequences.proofs.Numbers.{bytes_of}
use Rattle.sequences.proofs.Tests.{left, right, untrue}
use Rattle.sequences.proofs.LinksOrderly.{test_true}
use Rattle.links.specs.Noted.{Noted}
use Rattle.model.specs.Ranges.{is_bit}
use Rattle.model.specs.Sound.{sound, choice_fits}
use Rattle.model.specs.Layout.{view, links_part, orderly, sound_image}
use Rattle.fields.specs.Fields.{Sized}
use Rattle.sound.specs.Asked.{threads_asked, objects_asked}
use Rattle.sound.proofs.ThreadsAsked.{asked-orderly}
use Rattle.sound.proofs.AskedSound.{followed, asked-sound}
use Rattle.sound.proofs.is_sound_image.Goals as goal
use Rattle.sound.proofs.is_sound_image.Goals.{Else-not-note, then-threads_fit, else-threads_fit}

disorderly : (b : List ℕ) → (Orderly 16 26 (links_part b) → ⊥) → false ≡ sound_image b
unfolding sound_image orderly
disorderly b never =
    sym
    (untrue (sound_image b)
    (λ e. absurd (never (test_true 16 26 (links_part b) (right (eqb (length b) 562) (orderly_links 16 26 (links_part b)) (left (orderly b) (sound (view b)) e))))))

-- followed: pass by pass
module _ (b marks : List ℕ) (o : Bytes b) (size : Sized b) (n : Noted 16 26 (links_part b) marks) where
  threads-fail : {t : Bool} → t ≡ threads_asked marks b → t ≡ false → false ≡ sound_image b
  threads-fail is e = rw (← is, e) at (asked-sound b marks o size n)

  module _ {t : Bool} (is : t ≡ threads_asked marks b) (e : t ≡ true) where
    in_order : Orderly 16 26 (links_part b)
    in_order = asked-orderly b marks o size n (sym is ∙ e)

    module _ {h : Bool} (head : h ≡ is_bit (view b).off && choice_fits (view b)) where
      choice-fails : h ≡ false → false ≡ sound_image b
      choice-fails f = rw (← is, e, ← head, f) at (asked-sound b marks o size n)

      objects-tell : h ≡ true → {r : Bool} → r ≡ objects_asked marks (view b) → r ≡ sound_image b
      objects-tell f g = g ∙ rw (← is, e, ← head, f) at (asked-sound b marks o size n)

bytes : (e : Else-not-note) → Bytes e.args.image.now
bytes e = bytes_of e.args.image.now e.fits-image

noted : (e : Else-not-note) → Noted 16 26 (links_part e.args.image.now) e.note.new.marks
noted e = e.note.ensures.passed (e.if-not-note.false)

pub returns-then-not-note : goal.returns-then-not-note
returns-then-not-note c = disorderly _ (c.note.ensures.failed (c.if-not-note.true))

pub threads_fit-requires : goal.threads_fit-requires
threads_fit-requires c = followed _ _ c.told-image (noted (goal.at.threads_fit-requires c).Else-not-note)

pub choice_fits-requires : goal.choice_fits-requires
choice_fits-requires c =
    let e = (goal.at.choice_fits-requires c).Else-not-note in record {
      followed = followed _ _ c.told-image (noted e);
      orderly = in_order _ _ (bytes e) c.told-image (noted e) c.threads_fit.ensures (c.if-threads_fit.true);
    }

pub objects_fit-requires : goal.objects_fit-requires
objects_fit-requires c = followed _ _ c.told-image (noted (goal.at.objects_fit-requires c).Else-not-note)

pub returns-then-choice_fits : goal.returns-then-choice_fits
returns-then-choice_fits c =
    let e = (goal.at.returns-then-choice_fits c).Else-not-note in
    elim c.if-threads_fit.branch [
      | then-threads_fit w ↦
          objects-tell _ _ (bytes e) c.told-image (noted e) c.threads_fit.ensures w.if-threads_fit.true w.choice_fits.ensures
          (sym w.value-is ∙ c.if-choice_fits.true) c.objects_fit.ensures
      | else-threads_fit w ↦ cc
    ]

pub returns-else-choice_fits : goal.returns-else-choice_fits
returns-else-choice_fits c =
    let e = (goal.at.returns-else-choice_fits c).Else-not-note in
    c.if-choice_fits.false ∙ elim c.if-threads_fit.branch [
      | then-threads_fit w ↦
          choice-fails _ _ (bytes e) c.told-image (noted e) c.threads_fit.ensures w.if-threads_fit.true w.choice_fits.ensures
          (sym w.value-is ∙ c.if-choice_fits.false)
      | else-threads_fit w ↦ threads-fail _ _ (bytes e) c.told-image (noted e) c.threads_fit.ensures w.if-threads_fit.false
    ]
