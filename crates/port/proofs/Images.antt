-- An image of the right length is sound exactly where its table is, and a call on it tells what the same call on the table tells. What the
-- call leaves is the table handed back, written out: a table that came back as it was gives the image itself.
use mathlib.Core.Path.{◌≡◌, refl, sym, ◌∙◌, ap}
use mathlib.Core.Bool.{Bool, true, false, cond}
use mathlib.Core.List.{List}
use mathlib.Core.Logic.{◌⊎◌, inl, inr, ⊎_map}
use Prim.Native.Nat.{ℕ}
use lib.ListN.{length}
use borrow.Author.Tests.{eqb-true}
use Rattle.sequences.specs.Bytes.{Bytes}
use Rattle.model.specs.declared.answers.Report.{Report}
use Rattle.model.specs.declared.requests.Request.{Request}
use Rattle.model.specs.Answers.{number, accepted}
use Rattle.model.specs.Time.{next}
use Rattle.model.specs.Before.{Laid}
use Rattle.model.specs.Stored.{Stored, seen, is_sound, told, kept, next_told_by, next_told}
use Rattle.entries.proofs.Demand1.{unsound_kept, refused_kept}
use Rattle.image.specs.Image.{image_of, image_length}
use Rattle.image.proofs.RoundTrip.{written_read}
use Rattle.rules.specs.Reports.{zero_if, unsound_report}
use Rattle.port.specs.Port.{right_length, stored_in, as_image, sound_image, report_of, image_after, next_in}

-- a choice between two things that are the same where the second would be taken
taken_first : {A : Type 0} (b : Bool) (x y : A) → (b ≡ true) ⊎ (x ≡ y) → cond b x y ≡ x
taken_first true x y h = refl
taken_first false x y (inl e) = let z : false ≡ true = e in cc
taken_first false x y (inr e) = sym e

-- ---- a wrong length

pub wrong_length : (s : List ℕ) → right_length s ≡ false → sound_image s ≡ false
unfolding sound_image
wrong_length s e = rw e

-- ---- the right one

module _ (s : List ℕ) (fits : right_length s ≡ true) where
  pub sound_as_table : sound_image s ≡ is_sound (stored_in s)
  unfolding sound_image
  sound_as_table = rw fits

  pub told_in : (q : Request) → report_of s q ≡ told (stored_in s) q
  unfolding report_of
  told_in q =
      rw sound_as_table
      (taken_first (is_sound (stored_in s)) (told (stored_in s) q) unsound_report
      (⊎_map (λ whole. whole) (ap (λ (l : Laid). l.reply.report)) (unsound_kept (stored_in s) q)))

  module _ (o : Bytes s) (q : Request) where
    back : as_image (stored_in s) ≡ s
    back = written_read s (eqb-true (length s) image_length fits) o

    pub kept_in : image_after s q ≡ as_image (kept (stored_in s) q)
    unfolding image_after
    kept_in =
        rw sound_as_table
        (taken_first (is_sound (stored_in s)) (as_image (kept (stored_in s) q)) s
        (⊎_map (λ whole. whole) (λ e. ap (λ (l : Laid). image_of l.reply.table l.rows) e ∙ back) (unsound_kept (stored_in s) q)))

    -- accepted, or left as it was
    pub refused_in : (accepted (report_of s q).answer ≡ true) ⊎ (image_after s q ≡ s)
    refused_in =
        ⊎_map (λ e. ap (λ (r : Report). accepted r.answer) (told_in q) ∙ e) (λ p. kept_in ∙ ap (λ (k : Stored). as_image k) p.0 ∙ back)
        (refused_kept (stored_in s) q)

    pub untouched_in : accepted (report_of s q).answer ≡ false → image_after s q ≡ s
    untouched_in refused =
        elim refused_in [
          | inl a ↦ cc
          | inr same ↦ same
        ]

  pub next_told_in : (number (next_told (stored_in s).table (stored_in s).rows).answer ≡ zero_if (sound_image s))
      × ((next_told (stored_in s).table (stored_in s).rows).next ≡ next_in s)
  unfolding next_in next_told next_told_by
  next_told_in = rw sound_as_table (by_sound (is_sound (stored_in s)))
    where
      by_sound : (b : Bool)
          → (number (next_told_by b (seen (stored_in s))).answer ≡ zero_if b) × ((next_told_by b (seen (stored_in s))).next ≡ cond b (next (seen (stored_in s))) 0)
      by_sound true = (refl, refl)
      by_sound false = (refl, refl)
