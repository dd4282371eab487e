-- 01, Replay file, as the program goes about it: a block of the file's bytes at a time, on a stored table. That the blocks of a file
-- together give the lines of the whole file is shown in proofs/.
use Rattle.std.specs.Prelude.{◌≡◌, Bool, true, false, List, [], ◌∷◌, ◌++◌, ℕ, zero, suc, ◌+◌, ◌%◌, length, drop}
use Rattle.model.specs.Before.{fresh_table, fresh_rows}
use Rattle.model.specs.Replay.{record_length, request_of, starts_with_record, Line, bad_record, line_of}
use Rattle.model.specs.Stored.{Stored, told, kept}
use Rattle.text.specs.Text.{text_of}

-- ---- one block

-- the lines of some bytes, the table after them, and whether all of them were good records
pub record Ran : Type 0 where
  pub lines : List Line
  pub after : Stored
  pub good : Bool

-- no byte is left; no record stands where one should begin; a line, and then the rest
abbrev pub ended : Stored → Ran
ended k = record { lines = []; after = k; good = true }

abbrev pub stopped : ℕ → Stored → Ran
stopped offset k = record { lines = bad_record offset ∷ []; after = k; good = false }

abbrev pub behind : Line → Ran → Ran
behind line r = record { lines = line ∷ r.lines; after = r.after; good = r.good }

-- at most n records of the bytes that begin at an offset of the file
unfoldable pub ran : ℕ → ℕ → List ℕ → Stored → Ran
ran zero offset bytes k = ended k
ran (suc n) offset [] k = ended k
ran (suc n) offset (x ∷ xs) k =
    elim (starts_with_record (x ∷ xs)) [
      | true ↦
          behind (line_of (told k (request_of (x ∷ xs))))
          (ran n (offset + record_length) (drop record_length (x ∷ xs)) (kept k (request_of (x ∷ xs))))
      | false ↦ stopped offset k
    ]

-- there are no more records than bytes
abbrev pub block : ℕ → List ℕ → Stored → Ran
block offset bytes k = ran (length bytes) offset bytes k

-- ---- a file in blocks

-- what is printed for them, one after the other, up to the first that isn't good
unfoldable pub printed : ℕ → List (List ℕ) → Stored → List ℕ
printed offset [] k = []
printed offset (bytes ∷ rest) k =
    elim (block offset bytes k).good [
      | true ↦ text_of (block offset bytes k).lines ++ printed (offset + length bytes) rest (block offset bytes k).after
      | false ↦ text_of (block offset bytes k).lines
    ]

-- the length of every block but the last is a multiple of a record's
abbrev pub WholeBlocks : List (List ℕ) → Type 0
WholeBlocks [] = Unit {0}
WholeBlocks (bytes ∷ []) = Unit {0}
WholeBlocks (bytes ∷ next ∷ rest) = (length bytes % record_length ≡ 0) × WholeBlocks (next ∷ rest)

-- the program starts with a fresh table
abbrev pub fresh_stored : Stored
fresh_stored = record { table = fresh_table; rows = fresh_rows }
