-- The C port: what each of its functions answers, reports and leaves in an image, for any bytes. An image of a wrong length is told as one
-- that isn't sound: answer 1, and no byte changed.
use Rattle.std.specs.Prelude.{Bool, cond, ◌&&◌, List, ℕ, eqb, length}
use Rattle.model.specs.declared.answers.Report.{Report}
use Rattle.model.specs.declared.requests.Request.{Request}
use Rattle.model.specs.Time.{next}
use Rattle.model.specs.Before.{fresh_table, fresh_rows}
use Rattle.model.specs.Stored.{Stored, seen, is_sound, told, kept}
use Rattle.rules.specs.Reports.{unsound_report}
use Rattle.image.specs.Image.{image_length, image_of, table_of, rows_of}

-- ---- images and tables

abbrev pub right_length : List ℕ → Bool
right_length image = eqb (length image) image_length

abbrev pub stored_in : List ℕ → Stored
stored_in image = record { table = table_of image; rows = rows_of image }

abbrev pub as_image : Stored → List ℕ
as_image k = image_of k.table k.rows

unfoldable pub sound_image : List ℕ → Bool
sound_image image = right_length image && is_sound (stored_in image)

-- ---- a fresh image

unfoldable pub fresh_after : List ℕ → List ℕ
fresh_after image = cond (right_length image) (image_of fresh_table fresh_rows) image

-- ---- a call

unfoldable pub report_of : List ℕ → Request → Report
report_of image q = cond (sound_image image) (told (stored_in image) q) unsound_report

unfoldable pub image_after : List ℕ → Request → List ℕ
image_after image q = cond (sound_image image) (as_image (kept (stored_in image) q)) image

-- ---- the next wake-up

unfoldable pub next_in : List ℕ → ℕ
next_in image = cond (sound_image image) (next (seen (stored_in image))) 0
