-- What tests of ids and numbers say of them once they have passed.
use mathlib.Core.Path.{◌≡◌}
use mathlib.Core.Bool.{Bool, true, ◌&&◌}
use Prim.Native.Nat.{ℕ, ◌<◌, ◌≤◌}
use borrow.Author.Tests.{ltb-true, leb-true}
use lib.Dec.{eqb, leb, ltb}
use Rattle.sequences.proofs.Tests.{left, right}
use Rattle.model.specs.Ranges.{fits_16, is_positive_16, fits_32}

-- what is there has an id in range
pub there_below : (i n : ℕ) (b : Bool) → ltb i n && b ≡ true → i < n
there_below i n b e = ltb-true i n (left (ltb i n) b e)

pub positive_fits : (x : ℕ) → is_positive_16 x ≡ true → x ≤ 65535
positive_fits x h = leb-true x 65535 (right (ltb 0 x) (fits_16 x) h)

-- mask and mode of a wait
pub wait-fits : (a b c d : ℕ) → is_positive_16 a && leb b 3 && fits_32 c && eqb d 0 ≡ true → (a ≤ 65535) × (b ≤ 3)
wait-fits a b c d h =
    let both = left (is_positive_16 a && leb b 3) (fits_32 c) (left (is_positive_16 a && leb b 3 && fits_32 c) (eqb d 0) h) in
    (positive_fits a (left (is_positive_16 a) (leb b 3) both), leb-true b 3 (right (is_positive_16 a) (leb b 3) both))
