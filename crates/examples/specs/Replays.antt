-- 01, Replay file: its whole example, and where a file ends: with a last record, before the first, in the middle of one, at a wrong
-- mark. The lines are compared as numbers.
use Rattle.std.specs.Prelude.{Bool, true, false, ◌&&◌, List, [], ◌∷◌, ◌++◌, ℕ, eqb, replicate, take, drop}
use Rattle.model.specs.Replay.{Line, numbers, bad_record, replay}

pub record Played : Type 0 where
  pub bytes : List ℕ
  pub lines : List Line

-- a line's numbers, so that lines can be compared
abbrev pub numbers_of : Line → List ℕ
numbers_of (numbers a b c d) = a ∷ b ∷ c ∷ d ∷ []
numbers_of (bad_record offset) = offset ∷ []

abbrev pub same : List ℕ → List ℕ → Bool
same [] [] = true
same [] (y ∷ ys) = false
same (x ∷ xs) [] = false
same (x ∷ xs) (y ∷ ys) = eqb x y && same xs ys

abbrev pub same_lines : List Line → List Line → Bool
same_lines [] [] = true
same_lines [] (y ∷ ys) = false
same_lines (x ∷ xs) [] = false
same_lines (x ∷ xs) (y ∷ ys) = same (numbers_of x) (numbers_of y) && same_lines xs ys

unfoldable pub plays_right : Played → Bool
plays_right p = same_lines (replay p.bytes) p.lines

-- ---- the files

-- a record of whose fields only these three bytes aren't 0, behind a mark whose second byte is given
abbrev pub record_of : ℕ → ℕ → ℕ → ℕ → List ℕ
record_of mark call id a = 0xAC ∷ mark ∷ call ∷ id ∷ a ∷ replicate 15 0

abbrev pub whole_example : List ℕ
whole_example = record_of 0xDC 0x01 0x03 0x04 ++ record_of 0xDC 0x02 0x03 0x00 ++ record_of 0xDC 0x16 0x00 0x05

unfoldable pub replays : List Played
replays =
    record { bytes = whole_example; lines = numbers 0 255 0 0 ∷ numbers 0 3 0 0 ∷ numbers 0 3 5 0 ∷ [] }
    ∷ record { bytes = []; lines = [] }
    ∷ record { bytes = take 40 whole_example ++ record_of 0xDD 0x16 0x00 0x05 ++ whole_example; lines = numbers 0 255 0 0 ∷ numbers 0 3 0 0 ∷ bad_record 40 ∷ [] }
    ∷ record { bytes = take 39 whole_example; lines = numbers 0 255 0 0 ∷ bad_record 20 ∷ [] }
    ∷ record { bytes = take 1 whole_example; lines = bad_record 0 ∷ [] }
    -- the other byte of the mark; fields of several bytes, and the wake-ups of an advance
    ∷ record { bytes = 0xAB ∷ drop 1 whole_example; lines = bad_record 0 ∷ [] }
    ∷ record { bytes = 0xAC ∷ 0xDC ∷ 0x13 ∷ 0x00 ∷ 0x82 ∷ 0x00 ∷ 0x00 ∷ 0x00 ∷ 0x01 ∷ replicate 11 0 ++ (0xAC ∷ 0xDC ∷ 0x16 ∷ 0x00 ∷ 0x2C ∷ 0x01 ∷ replicate 14 0); lines = numbers 0 255 0 0 ∷ numbers 0 255 300 2 ∷ [] }
    ∷ []
