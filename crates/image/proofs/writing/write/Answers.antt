-- Five groups of parts fill the image one behind the other, and groups joined are their parts joined.
use mathlib.Core.Path.{◌≡◌, ◌∙◌}
use mathlib.Core.List.{List, [], ◌∷◌, append_assoc, append-nil}
use Prim.Native.Nat.{ℕ}
use Rattle.sequences.specs.Bytes.{four_bytes, flat, joined}
use Rattle.sequences.proofs.Behind.{all-put}
use Rattle.model.specs.declared.tables.Table.{Table}
use Rattle.model.specs.Before.{Rows}
use Rattle.image.specs.Image.{thread_bytes, semaphore_bytes, mutex_bytes, flags_bytes, timer_bytes, list_bytes, image_of}
use borrow.Author.Rules.{rules}
use Rattle.image.proofs.writing.write.Goals as goal

-- the image in the five groups that are written
abbrev groups : Table → Rows → List (List ℕ)
groups t rows =
    joined (four_bytes t.clock ∷ (t.off ∷ t.chosen ∷ []) ∷ [])
    ∷ flat thread_bytes t.threads
    ∷ joined (flat semaphore_bytes t.semaphores ∷ flat mutex_bytes t.mutexes ∷ flat flags_bytes t.flags ∷ [])
    ∷ flat timer_bytes t.timers
    ∷ joined (t.lengths ∷ joined rows ∷ flat list_bytes t.waits ∷ [])
    ∷ []

groups-joined : (t : Table) (rows : Rows) → joined (groups t rows) ≡ image_of t rows
unfolding flat image_of
groups-joined t rows = simp (append_assoc, append-nil)

pub returns : goal.returns
returns c =
    all-put 0 c.args.image.now (
    (6, c.copy_from_slice.new.self)
    ∷ (272, c.write_all.new.bytes)
    ∷ (64, c.put_objects.new.dst)
    ∷ (136, c.write_all-2.new.bytes)
    ∷ (442, c.put_lists.new.dst)
    ∷ []) {qs = groups c.args.t c.args.rows} (search rules) c.told-image
    (λ i. (c.copy_from_slice.ensures.after ∙ c.head.ensures) i ∷ c.write_all.ensures i ∷ c.put_objects.ensures i ∷ c.write_all-2.ensures i ∷ c.put_lists.ensures i ∷ [])
    ∙ groups-joined c.args.t c.args.rows
