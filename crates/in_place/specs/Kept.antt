-- Words in which the demands are told of images, for any bytes: what the contracts of the code speak of. A wrong length is one of the ways in
-- which an image isn't sound, and then nothing is told of it and no byte changes.
use Rattle.std.specs.Prelude.{cond, List, ℕ, zero, suc, ◌+◌, eqb, length}
use Rattle.model.specs.declared.answers.Answer.TheVariants.{Done}
use Rattle.model.specs.declared.answers.Report.{Report}
use Rattle.model.specs.declared.requests.Request.{Request}
use Rattle.model.specs.State.{fresh}
use Rattle.model.specs.Answers.{report}
use Rattle.model.specs.Time.{next}
use Rattle.model.specs.Kernel.{call}
use Rattle.model.specs.Layout.{view, lay, sound_image, image_length}
use Rattle.model.specs.Promises.{advancing}
use Rattle.rules.specs.Reports.{unsound_report}

-- ---- a fresh image

unfoldable pub fresh_kept : List ℕ → List ℕ
fresh_kept image = cond (eqb (length image) image_length) (lay fresh) image

-- ---- a call: what it tells, and the image that it leaves

unfoldable pub told : List ℕ → Request → Report
told image q = cond (sound_image image) (call (view image) q).report unsound_report

unfoldable pub kept : List ℕ → Request → List ℕ
kept image q = cond (sound_image image) (lay (call (view image) q).after) image

-- n calls, each of which advances by 1 what the one before it left; and the wake-ups that they report together
unfoldable pub singly : ℕ → List ℕ → List ℕ
singly zero image = image
singly (suc n) image = singly n (kept image (advancing 1))

unfoldable pub singly_told : ℕ → List ℕ → ℕ
singly_told zero image = 0
singly_told (suc n) image = (told image (advancing 1)).wakeups + singly_told n (kept image (advancing 1))

-- ---- the next wake-up asked for by itself

unfoldable pub next_told : List ℕ → Report
next_told image = cond (sound_image image) (report Done (view image) 0 (next (view image))) unsound_report
