-- The image of a table that fits has its 920 bytes and is read as that table again, and any 920 bytes are the image of what is read from
-- them. Both go part by part: the parts are cut out of the image by their widths.
use mathlib.Core.Path.{◌≡◌, refl, ap, ◌∙◌}
use mathlib.Core.List.{List, [], ◌∷◌}
use Prim.Native.Nat.{ℕ, ◌+◌, ◌≤◌}
use native.Mathlib.Omega.{arith}
use lib.ListN.{length, get_or, drop, length-drop}
use lib.Seq.{length-take-le}
use Rattle.sequences.specs.Bytes.{Each, Bytes, flat, chunks, joined, part, four_bytes, four_at}
use Rattle.sequences.proofs.Numbers.{four_back, first_of_four, second-of_four, third-of_four, fourth_of_four}
use Rattle.sequences.proofs.EndToEnd.{bytes_take, bytes_drop}
use Rattle.sequences.proofs.Codecs.{Codec, Many, codec_of-many, bytes_coded, bytes-flat}
use Rattle.sequences.proofs.Joined.{widths, cut, length-joined, cut_joined, joined_cut, spelled_part}
use Rattle.model.specs.declared.tables.Table.{Table}
use Rattle.model.specs.Before.{Rows}
use Rattle.image.specs.Image.{parts, image_of, table_of, rows_of}
use Rattle.image.specs.Image.{thread_bytes, thread_of, semaphore_bytes, semaphore_of, mutex_bytes, mutex_of, flags_bytes, flags_of}
use Rattle.image.specs.Image.{timer_bytes, timer_of, list_bytes, list_of, row_of}
use Rattle.image.proofs.Fits.{TableFits, ThreadFits, SemaphoreFits, MutexFits, FlagsFits, TimerFits, ListFits, RowFits, One}
use Rattle.image.proofs.Records.{threads_coded, semaphores_coded, mutexes_coded, flags_coded, timers_coded, lists_coded, rows_coded}

-- ---- the arrays

threads : Codec 272 (Many 16 ThreadFits) (flat thread_bytes) (chunks thread_of 17 16)
threads = codec_of-many 16 threads_coded

semaphores : Codec 40 (Many 8 SemaphoreFits) (flat semaphore_bytes) (chunks semaphore_of 5 8)
semaphores = codec_of-many 8 semaphores_coded

mutexes : Codec 12 (Many 4 MutexFits) (flat mutex_bytes) (chunks mutex_of 3 4)
mutexes = codec_of-many 4 mutexes_coded

flags : Codec 12 (Many 4 FlagsFits) (flat flags_bytes) (chunks flags_of 3 4)
flags = codec_of-many 4 flags_coded

timers : Codec 136 (Many 8 TimerFits) (flat timer_bytes) (chunks timer_of 17 8)
timers = codec_of-many 8 timers_coded

lengths : Codec 8 (Many 8 One) (λ (s : List ℕ). s) (λ (s : List ℕ). s)
lengths = bytes_coded 8

ready : Codec 128 (Many 8 RowFits) joined (chunks row_of 16 8)
ready = codec_of-many 8 rows_coded

waits : Codec 306 (Many 18 ListFits) (flat list_bytes) (chunks list_of 17 18)
waits = codec_of-many 18 lists_coded

abbrev part-widths : List ℕ
part-widths = 4 ∷ 2 ∷ 272 ∷ 40 ∷ 12 ∷ 12 ∷ 136 ∷ 8 ∷ 128 ∷ 306 ∷ []

-- ---- a table that fits

-- what is shown of each part, one part behind the other
infixr 20 ◌and◌
◌and◌ : {P Q : Type 0} → P → Q → P × Q
p and q = (p, q)

module _ (t : Table) (rows : Rows) (o : TableFits t rows) where
  widths-parts : widths (parts t rows) ≡ part-widths
  widths-parts = λ i.
      4
      ∷ 2
      ∷ threads.wide _ o.threads i
      ∷ semaphores.wide _ o.semaphores i
      ∷ mutexes.wide _ o.mutexes i
      ∷ flags.wide _ o.flags i
      ∷ timers.wide _ o.timers i
      ∷ lengths.wide _ o.lengths i
      ∷ ready.wide _ o.ready i
      ∷ waits.wide _ o.waits i
      ∷ []

  pub length_image : length (image_of t rows) ≡ 920
  unfolding image_of
  length_image = length-joined (parts t rows) widths-parts

  bytes-parts : Each Bytes (parts t rows)
  bytes-parts =
      omega arith
      and (o.off and o.chosen and tt)
      and threads.bytes _ o.threads
      and semaphores.bytes _ o.semaphores
      and mutexes.bytes _ o.mutexes
      and flags.bytes _ o.flags
      and timers.bytes _ o.timers
      and lengths.bytes _ o.lengths
      and ready.bytes _ o.ready
      and waits.bytes _ o.waits
      and tt

  pub bytes_image : Bytes (image_of t rows)
  unfolding image_of
  bytes_image = bytes-flat (λ (p : List ℕ). p) Bytes (λ p b. b) (parts t rows) bytes-parts

  -- ---- what was written is read back

  cut_image : cut 0 part-widths (image_of t rows) ≡ parts t rows
  unfolding image_of
  cut_image = cut_joined (parts t rows) widths-parts

  read_part : {A : Type 0} {w : ℕ} {Ok : A → Type 0} {f : A → List ℕ} {g : List ℕ → A} → Codec w Ok f g → (k : ℕ) {x : A}
      → Ok x → get_or (parts t rows) k [] ≡ f x → g (get_or (cut 0 part-widths (image_of t rows)) k []) ≡ x
  read_part {g = g} c k {x} fits e = ap (λ (ps : List (List ℕ)). g (get_or ps k [])) cut_image ∙ ap g e ∙ c.same x fits

  table_same : table_of (image_of t rows) ≡ t
  unfolding table_of image_of flat
  table_same = λ i.
      record {
        clock = four_back t.clock o.clock i;
        off = t.off;
        chosen = t.chosen;
        threads = read_part threads 2 o.threads refl i;
        semaphores = read_part semaphores 3 o.semaphores refl i;
        mutexes = read_part mutexes 4 o.mutexes refl i;
        flags = read_part flags 5 o.flags refl i;
        timers = read_part timers 6 o.timers refl i;
        lengths = read_part lengths 7 o.lengths refl i;
        waits = read_part waits 9 o.waits refl i;
      }

  rows_same : rows_of (image_of t rows) ≡ rows
  unfolding rows_of
  rows_same = read_part ready 8 o.ready refl

  pub read_written : (table_of (image_of t rows) ≡ t) × (rows_of (image_of t rows) ≡ rows)
  read_written = (table_same, rows_same)

-- ---- what was read is written back

module _ (s : List ℕ) (l : length s ≡ 920) (o : Bytes s) where
  write_part : {A : Type 0} {w : ℕ} {Ok : A → Type 0} {f : A → List ℕ} {g : List ℕ → A} → Codec w Ok f g → (at : ℕ) → at + w ≤ 920
      → f (g (part at w s)) ≡ part at w s
  write_part {w = w} c at h =
      c.back (part at w s) (length-take-le w (drop at s) (omega (arith, length-drop at s))) (bytes_take w (drop at s) (bytes_drop at s o))

  clock-back : four_bytes (four_at 0 s) ≡ part 0 4 s
  clock-back = simp (first_of_four s o, second-of_four s o, third-of_four s o, fourth_of_four s o) (spelled_part 4 0 s (omega arith))

  parts-back : parts (table_of s) (rows_of s) ≡ cut 0 part-widths s
  unfolding table_of rows_of
  parts-back = λ i.
      clock-back i
      ∷ spelled_part 2 4 s (omega arith) i
      ∷ write_part threads 6 (omega arith) i
      ∷ write_part semaphores 278 (omega arith) i
      ∷ write_part mutexes 318 (omega arith) i
      ∷ write_part flags 330 (omega arith) i
      ∷ write_part timers 342 (omega arith) i
      ∷ write_part lengths 478 (omega arith) i
      ∷ write_part ready 486 (omega arith) i
      ∷ write_part waits 614 (omega arith) i
      ∷ []

  pub written_read : image_of (table_of s) (rows_of s) ≡ s
  unfolding image_of
  written_read = ap joined parts-back ∙ joined_cut 0 part-widths s l
