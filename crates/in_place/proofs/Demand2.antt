-- Demand 2, of images: sound gives sound, an accepted call has its effect and nothing else is accepted, the chosen thread heads the highest
-- ready list, and every thread stands where it must.
use mathlib.Core.Path.{◌≡◌, refl, sym, ◌∙◌, ap, subst}
use mathlib.Core.Bool.{Bool, true, false, not}
use mathlib.Core.List.{List}
use Prim.Native.Nat.{ℕ, ◌+◌, ◌≤◌}
use borrow.Author.Tests.{eq-eqb}
use lib.ListN.{length}
use Rattle.sequences.specs.Bytes.{Bytes}
use Rattle.sequences.specs.Lists.{count_all, every_below}
use Rattle.model.specs.declared.answers.Report.{Report}
use Rattle.model.specs.declared.requests.Request.{Request}
use Rattle.model.specs.State.{scheduling_on, fresh}
use Rattle.model.specs.Parts.{thread}
use Rattle.model.specs.Ranges.{◌implies◌}
use Rattle.model.specs.Answers.{accepted}
use Rattle.model.specs.Calls.{numbered}
use Rattle.model.specs.Kernel.{perform, call}
use Rattle.model.specs.Layout.{view, lay, sound_image, image_length}
use Rattle.model.specs.Promises.{heads_highest, applies}
use Rattle.layout.proofs.Images.{lay-bytes, lay-length, lay-sound}
use Rattle.theorems.proofs.Demand2 as model
use Rattle.theorems.proofs.Histories.{fresh-sound}
use Rattle.untimed.proofs.Laid.{view-sound, sound-whole}
use Rattle.in_place.specs.Kept.{fresh_kept, told, kept}
use Rattle.in_place.proofs.Calling.{told-sound, kept-laid, after-sound, view-kept}
use Rattle.in_place.proofs.Demand1.{unsound_kept}

-- ---- a fresh image

pub fresh-sound_image : sound_image (lay fresh) ≡ true
fresh-sound_image = lay-sound fresh fresh-sound

-- it is what is written over any bytes of the right length
pub fresh_written : (b : List ℕ) → length b ≡ image_length → fresh_kept b ≡ lay fresh
unfolding fresh_kept
fresh_written b size = rw (eq-eqb (length b) image_length size)

-- ---- what a call leaves

pub sound-kept : (b : List ℕ) (q : Request) → sound_image b ≡ true → sound_image (kept b q) ≡ true
sound-kept b q whole = ap sound_image (kept-laid b whole q) ∙ lay-sound (call (view b) q).after (after-sound b whole q)

-- bytes, and as many as there were, also where the image isn't sound
pub kept-bytes : (b : List ℕ) (q : Request) → Bytes b → Bytes (kept b q)
kept-bytes b q bytes = by_sound (sound_image b) refl
  where
    by_sound : (t : Bool) → sound_image b ≡ t → Bytes (kept b q)
    by_sound true whole = subst Bytes (sym (kept-laid b whole q)) (lay-bytes (call (view b) q).after (after-sound b whole q))
    by_sound false e = subst Bytes (sym (unsound_kept b q e).1) bytes

pub kept-length : (b : List ℕ) (q : Request) → length (kept b q) ≡ length b
kept-length b q = by_sound (sound_image b) refl
  where
    by_sound : (t : Bool) → sound_image b ≡ t → length (kept b q) ≡ length b
    by_sound true whole =
        ap (λ (l : List ℕ). length l) (kept-laid b whole q)
        ∙ lay-length (call (view b) q).after (after-sound b whole q)
        ∙ sym (sound-whole b whole).size
    by_sound false e = ap (λ (l : List ℕ). length l) (unsound_kept b q e).1

-- the effect of an accepted call; a refusal has none
pub kept-effect : (b : List ℕ) (q : Request) → sound_image b ≡ true
    → view (kept b q) ≡ perform (accepted (told b q).answer) (numbered q.call) q (view b)
kept-effect b q whole =
    view-kept b whole q
    ∙ model.call-effect (view b) q
    ∙ ap (λ (r : Report). perform (accepted r.answer) (numbered q.call) q (view b)) (sym (told-sound b whole q))

-- accepted exactly where no row of a refusal applies
pub accepted_exactly : (b : List ℕ) (q : Request) → sound_image b ≡ true
    → accepted (told b q).answer ≡ every_below 10 (λ j. not (applies j (view b) q))
accepted_exactly b q whole = ap (λ (r : Report). accepted r.answer) (told-sound b whole q) ∙ model.accepted_exactly (view b) q

-- ---- what every sound image has

-- with scheduling on
pub chosen-heads : (b : List ℕ) → sound_image b ≡ true → scheduling_on (view b) implies heads_highest (view b) ≡ true
chosen-heads b whole = model.chosen-heads (view b) (view-sound b whole)

-- a created thread stands on one list, once, and any other id on none
pub on-one-list : (b : List ℕ) → sound_image b ≡ true → (i : ℕ)
    → (count_all i (view b).ready + count_all i (view b).waits ≡ (thread i (view b)).created) × ((thread i (view b)).created ≤ 1)
on-one-list b whole i = model.on-one-list (view b) (view-sound b whole) i
