-- 01, Replay file: what the replay program writes for a file's bytes, as lines of numbers. How a number is written in digits is the
-- text's matter.
use Rattle.std.specs.Prelude.{Bool, true, false, ◌&&◌, List, [], ◌∷◌, ℕ, zero, suc, ◌+◌, eqb, leb, length, drop, get_or}
use Rattle.sequences.specs.Bytes.{four_at}
use Rattle.model.specs.declared.answers.Report.{Report}
use Rattle.model.specs.declared.requests.Request.{Request}
use Rattle.model.specs.State.{State, fresh}
use Rattle.model.specs.Answers.{number}
use Rattle.model.specs.Kernel.{Outcome, call}

abbrev pub record_length : ℕ
record_length = 20

-- behind the mark a byte each for call and id, then the four numbers, low byte first
abbrev pub request_of : List ℕ → Request
request_of bytes =
    record {
      call = get_or bytes 2 0;
      id = get_or bytes 3 0;
      a = four_at 4 bytes;
      b = four_at 8 bytes;
      c = four_at 12 bytes;
      d = four_at 16 bytes;
    }

-- a whole record stands first, and its mark is right
abbrev pub starts_with_record : List ℕ → Bool
starts_with_record bytes = leb record_length (length bytes) && eqb (get_or bytes 0 0) 0xAC && eqb (get_or bytes 1 0) 0xDC

-- a line: the four numbers of a reply, or the offset of the first byte of a bad record
pub data Line : Type 0 where
  numbers : ℕ → ℕ → ℕ → ℕ → Line
  bad_record : ℕ → Line

abbrev pub line_of : Report → Line
line_of r = numbers (number r.answer) r.chosen r.clock r.wakeups

-- the rest of a file, at most n records of it: its first byte's offset in the file, its bytes, and the table so far. Where no
-- record stands, that offset is the last line.
unfoldable pub lines_from : ℕ → ℕ → List ℕ → State → List Line
lines_from zero offset bytes s = []
lines_from (suc n) offset [] s = []
lines_from (suc n) offset (x ∷ xs) s =
    let o : Outcome = call s (request_of (x ∷ xs)) in
    elim (starts_with_record (x ∷ xs)) [
      | true ↦ line_of o.report ∷ lines_from n (offset + record_length) (drop record_length (x ∷ xs)) o.after
      | false ↦ bad_record offset ∷ []
    ]

-- the program starts fresh; a file has no more records than bytes
unfoldable pub replay : List ℕ → List Line
replay bytes = lines_from (length bytes) 0 bytes fresh
