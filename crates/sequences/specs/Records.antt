-- Records of numbers in bytes: the numbers of a record stand one behind the other, each in so many bytes, and records of one kind stand one
-- behind the other in a part of the whole. A record is told by its widths and read by offset into the whole. No word of the kernel stands
-- here, so that a fact about a field is shown once and serves every field of every record.
use Rattle.std.specs.Prelude.{◌≡◌, List, [], ◌∷◌, ◌++◌, ℕ, zero, suc, ◌+◌, ◌*◌, ◌<◌, ◌≤◌, get_or, length}
use Rattle.sequences.specs.Lists.{tabulate}
use Rattle.sequences.specs.Bytes.{number, digits, flat}

-- ---- one record

-- how many bytes numbers of these widths take, and how many of them stand before the f-th number
abbrev pub total : List ℕ → ℕ
total [] = 0
total (w ∷ ws) = w + total ws

abbrev pub offset : List ℕ → ℕ → ℕ
offset ws zero = 0
offset [] (suc f) = 0
offset (w ∷ ws) (suc f) = w + offset ws f

-- the numbers of these widths from place k on, where the first of them stands o bytes behind k: offsets are summed up apart from the place, so
-- that a field is read as code reads it, at k + 3
abbrev pub reads_from : ℕ → List ℕ → ℕ → List ℕ → List ℕ
reads_from o [] k s = []
reads_from o (w ∷ ws) k s = number w (k + o) s ∷ reads_from (o + w) ws k s

abbrev pub reads : List ℕ → ℕ → List ℕ → List ℕ
reads ws k s = reads_from 0 ws k s

-- the bytes of these numbers in these widths
abbrev pub lays : List ℕ → List ℕ → List ℕ
lays [] xs = []
lays (w ∷ ws) [] = []
lays (w ∷ ws) (x ∷ xs) = digits w x ++ lays ws xs

-- ---- many of one kind

-- `many` records of these widths from byte `first` on; `of` makes a record of its numbers, and `numbers` takes it apart again
pub record Place (A : Type 0) : Type 0 where
  pub of : List ℕ → A
  pub numbers : A → List ℕ
  pub widths : List ℕ
  pub first : ℕ
  pub many : ℕ

module _ {A : Type 0} (P : Place A) where
  -- the bytes of one record, and where all of them end
  abbrev pub stride : ℕ
  stride = total P.widths

  abbrev pub end : ℕ
  end = P.first + stride * P.many

  -- where record i starts; where its f-th number starts, and in how many bytes it stands
  abbrev pub start : ℕ → ℕ
  start i = P.first + stride * i

  abbrev pub spot : ℕ → ℕ → ℕ
  spot i f = start i + offset P.widths f

  abbrev pub width : ℕ → ℕ
  width f = get_or P.widths f 0

  -- record i of these bytes, and all records
  abbrev pub one : ℕ → List ℕ → A
  one i s = P.of (reads P.widths (start i) s)

  unfoldable pub all : List ℕ → List A
  all s = tabulate P.many (λ i. one i s)

  -- the bytes of one record, and of so many one behind the other
  abbrev pub bytes_of : A → List ℕ
  bytes_of x = lays P.widths (P.numbers x)

  abbrev pub bytes_of_all : List A → List ℕ
  bytes_of_all xs = flat bytes_of xs

-- ---- what stays

-- between these places r has the bytes that s has
abbrev pub Same : ℕ → ℕ → List ℕ → List ℕ → Type 0
Same a b s r = (j : ℕ) → a ≤ j → j < b → get_or r j 0 ≡ get_or s j 0

-- outside of them it has
pub record Outside (a b : ℕ) (s r : List ℕ) : Type 0 where
  pub size : length r ≡ length s
  pub before : (j : ℕ) → j < a → get_or r j 0 ≡ get_or s j 0
  pub behind : (j : ℕ) → b ≤ j → get_or r j 0 ≡ get_or s j 0
