-- What a user of the C port is promised of images, beyond each function's own contract: a refusal leaves every byte, sound gives sound, a
-- fresh image is sound, no byte is outside the table, and the next wake-up reported is that of the image left.
use mathlib.Core.Path.{◌≡◌, refl, sym, ◌∙◌, ap, ap₂}
use mathlib.Core.Bool.{Bool, true, false}
use mathlib.Core.List.{List}
use mathlib.Core.Logic.{◌⊎◌, inr}
use Prim.Native.Nat.{ℕ}
use lib.ListN.{length}
use borrow.Author.Tests.{eq-eqb}
use Rattle.sequences.specs.Bytes.{Bytes}
use Rattle.sequences.proofs.Tests.{both, right}
use Rattle.model.specs.declared.answers.Report.{Report}
use Rattle.model.specs.declared.requests.Request.{Request}
use Rattle.model.specs.declared.tables.Table.{Table}
use Rattle.model.specs.Answers.{accepted}
use Rattle.model.specs.Time.{next}
use Rattle.model.specs.Before.{Rows, fresh_table, fresh_rows}
use Rattle.model.specs.Stored.{Stored, seen, is_sound, kept}
use Rattle.entries.proofs.Demand1.{sound-told}
use Rattle.entries.proofs.Demand2.{fresh_stored, sound-kept}
use Rattle.image.specs.Image.{image_length}
use Rattle.image.proofs.RoundTrip.{written_read}
use Rattle.image.proofs.SoundImage.{sound_read_written, sound_image-length, sound-bytes}
use Rattle.rules.specs.Reports.{report_length, report_numbers}
use Rattle.port.specs.Port.{right_length, stored_in, as_image, sound_image, fresh_after, report_of, image_after, next_in}
use Rattle.port.proofs.Images.{wrong_length, refused_in}

-- a report has so many numbers
pub length-report : (r : Report) → length (report_numbers r) ≡ report_length
length-report r = refl

-- no byte is outside the table
pub rewritten : (image : List ℕ) → Bytes image → length image ≡ 920 → as_image (stored_in image) ≡ image
rewritten image o fits = written_read image fits o

-- accepted, or every byte as it was
pub refused_untouched : (image : List ℕ) (q : Request) → Bytes image → (accepted (report_of image q).answer ≡ true) ⊎ (image_after image q ≡ image)
unfolding image_after
refused_untouched image q o = by_length (right_length image) refl
  where
    by_length : (b : Bool) → right_length image ≡ b → (accepted (report_of image q).answer ≡ true) ⊎ (image_after image q ≡ image)
    by_length true fits = refused_in image fits o q
    by_length false e = inr (rw (wrong_length image e))

-- ---- sound images

-- a sound table, written out and read
pub read_back : (k : Stored) → is_sound k ≡ true → stored_in (as_image k) ≡ k
read_back k whole =
    let same = sound_read_written k.table k.rows whole in
    ap₂ (λ (t : Table) (rows : Rows). record { table = t; rows = rows }) same.0 same.1

-- and it is as long as an image is, byte for byte
pub written_fits : (k : Stored) → is_sound k ≡ true → (length (as_image k) ≡ 920) × Bytes (as_image k)
written_fits k whole = (sound_image-length k.table k.rows whole, sound-bytes k.table k.rows whole)

written_sound : (k : Stored) → is_sound k ≡ true → sound_image (as_image k) ≡ true
unfolding sound_image
written_sound k whole =
    both (eq-eqb (length (as_image k)) image_length (written_fits k whole).0)
    (ap (λ (l : Stored). is_sound l) (read_back k whole) ∙ whole)

pub fresh-sound : (image : List ℕ) → length image ≡ 920 → sound_image (fresh_after image) ≡ true
unfolding fresh_after
fresh-sound image fits = rw (eq-eqb (length image) image_length fits) (written_sound (record { table = fresh_table; rows = fresh_rows }) fresh_stored)

table-sound : (image : List ℕ) → sound_image image ≡ true → is_sound (stored_in image) ≡ true
unfolding sound_image
table-sound image whole = right (right_length image) (is_sound (stored_in image)) whole

pub sound-after : (image : List ℕ) (q : Request) → sound_image image ≡ true → sound_image (image_after image q) ≡ true
unfolding image_after
sound-after image q whole = rw whole (written_sound (kept (stored_in image) q) (sound-kept (stored_in image) q (table-sound image whole)))

-- of any image
pub next_agrees : (image : List ℕ) (q : Request) → (report_of image q).next ≡ next_in (image_after image q)
unfolding report_of image_after next_in
next_agrees image q = by_sound (sound_image image) refl
  where
    by_sound : (b : Bool) → sound_image image ≡ b → (report_of image q).next ≡ next_in (image_after image q)
    by_sound true whole =
        let k = kept (stored_in image) q in
        let here = table-sound image whole in
        let still = sound-kept (stored_in image) q here in
        rw (whole, written_sound k still)
        (ap (λ (r : Report). r.next) (sound-told (stored_in image) q here)
        ∙ ap (λ (l : Stored). next (seen l)) (sym (read_back k still)))
    by_sound false e = rw (e, e)
