-- What holds of an id that names one, and of an id that names none, holds of any.
use mathlib.Core.Path.{◌≡◌, refl}
use mathlib.Core.Bool.{Bool, true, false}
use Prim.Native.Nat.{ℕ, ◌<◌, ◌≤◌}
use borrow.Author.Tests.{ltb-true, ltb-false}
use lib.Dec.{ltb}

pub of_any : {A : Type 0} (n i : ℕ) {x y : A} → (i < n → x ≡ y) → (n ≤ i → x ≡ y) → x ≡ y
of_any n i {x} {y} f g = by_test (ltb i n) refl
  where
    by_test : (b : Bool) → ltb i n ≡ b → x ≡ y
    by_test true h = f (ltb-true i n h)
    by_test false h = g (ltb-false i n h)
