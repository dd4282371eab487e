-- The text of 01's own lines, and of the least and the greatest number of 64 bits, by computation.
use mathlib.Core.Path.{◌≡◌, refl}
use mathlib.Core.List.{[], ◌∷◌}
use Rattle.sequences.specs.Bytes.{flat}
use Rattle.model.specs.Replay.{numbers, bad_record}
use Rattle.text.specs.Text.{decimal_by, decimal, line_text, text_of}

-- "0 255 0 0", "0 3 0 0" and "0 3 5 0"
pub three_lines : text_of (numbers 0 255 0 0 ∷ numbers 0 3 0 0 ∷ numbers 0 3 5 0 ∷ [])
    ≡ 48 ∷ 32 ∷ 50 ∷ 53 ∷ 53 ∷ 32 ∷ 48 ∷ 32 ∷ 48 ∷ 10
    ∷ 48 ∷ 32 ∷ 51 ∷ 32 ∷ 48 ∷ 32 ∷ 48 ∷ 10
    ∷ 48 ∷ 32 ∷ 51 ∷ 32 ∷ 53 ∷ 32 ∷ 48 ∷ 10 ∷ []
unfolding decimal_by line_text flat
three_lines = refl

-- "bad record at 40"
pub bad_record_at_40 : line_text (bad_record 40) ≡ 98 ∷ 97 ∷ 100 ∷ 32 ∷ 114 ∷ 101 ∷ 99 ∷ 111 ∷ 114 ∷ 100 ∷ 32 ∷ 97 ∷ 116 ∷ 32 ∷ 52 ∷ 48 ∷ 10 ∷ []
unfolding decimal_by line_text
bad_record_at_40 = refl

pub least : decimal 0 ≡ 48 ∷ []
unfolding decimal_by
least = refl

-- 18446744073709551615
pub greatest : decimal 0xFFFFFFFFFFFFFFFF
    ≡ 49 ∷ 56 ∷ 52 ∷ 52 ∷ 54 ∷ 55 ∷ 52 ∷ 52 ∷ 48 ∷ 55 ∷ 51 ∷ 55 ∷ 48 ∷ 57 ∷ 53 ∷ 53 ∷ 49 ∷ 54 ∷ 49 ∷ 53 ∷ []
unfolding decimal_by
greatest = refl
