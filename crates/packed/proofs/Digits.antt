-- A number's bytes are its digits where it fits: the last one needs no remainder.
use mathlib.Core.Path.{◌≡◌}
use mathlib.Core.List.{[], ◌∷◌}
use Prim.Native.Nat.{ℕ, ◌/◌, ◌%◌, ◌<◌}
use native.Mathlib.Omega.{arith}
use Rattle.sequences.specs.Bytes.{two_bytes, four_bytes, digits}

pub two_digits : (x : ℕ) → x < 65536 → two_bytes x ≡ digits 2 x
two_digits x h =
    let last : x / 256 % 256 ≡ x / 256 = omega arith in
    λ i. x % 256 ∷ last i ∷ []

pub four_digits : (x : ℕ) → x < 4294967296 → four_bytes x ≡ digits 4 x
four_digits x h =
    let third : x / 65536 % 256 ≡ x / 256 / 256 % 256 = omega arith in
    let last : x / 16777216 % 256 ≡ x / 256 / 256 / 256 = omega arith in
    λ i. x % 256 ∷ x / 256 % 256 ∷ third i ∷ last i ∷ []
