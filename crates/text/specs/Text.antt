-- 01, Replay file: the text of a line, as bytes. Numbers stand in decimal, with one space between two of them; a line feed ends a line.
use Rattle.std.specs.Prelude.{cond, List, [], ◌∷◌, ◌++◌, ℕ, zero, suc, ◌+◌, ◌/◌, ◌%◌, ltb}
use Rattle.sequences.specs.Bytes.{flat}
use Rattle.model.specs.Replay.{Line, numbers, bad_record}

-- ---- numbers

abbrev pub digit : ℕ → ℕ
digit n = 48 + n

-- the digits of a number that has at most f + 1 of them, the highest first
unfoldable pub decimal_by : ℕ → ℕ → List ℕ
decimal_by zero n = digit n ∷ []
decimal_by (suc f) n = cond (ltb n 10) (digit n ∷ []) (decimal_by f (n / 10) ++ (digit (n % 10) ∷ []))

-- 64 bits take at most 20
abbrev pub decimal : ℕ → List ℕ
decimal n = decimal_by 19 n

-- ---- lines

abbrev pub space : ℕ
space = 32

abbrev pub line_feed : ℕ
line_feed = 10

-- a number and what stands behind it
abbrev pub followed : ℕ → ℕ → List ℕ
followed n byte = decimal n ++ (byte ∷ [])

-- "bad record at ", in ASCII
abbrev pub bad_record_at : List ℕ
bad_record_at = 98 ∷ 97 ∷ 100 ∷ 32 ∷ 114 ∷ 101 ∷ 99 ∷ 111 ∷ 114 ∷ 100 ∷ 32 ∷ 97 ∷ 116 ∷ 32 ∷ []

unfoldable pub line_text : Line → List ℕ
line_text (numbers a b c d) = followed a space ++ (followed b space ++ (followed c space ++ followed d line_feed))
line_text (bad_record offset) = bad_record_at ++ followed offset line_feed

-- lines one behind the other
abbrev pub text_of : List Line → List ℕ
text_of lines = flat line_text lines
