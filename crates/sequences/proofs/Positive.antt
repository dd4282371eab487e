-- A number is above 0 exactly where it isn't 0.
use mathlib.Core.Path.{◌≡◌, refl}
use mathlib.Core.Bool.{not, not-not}
use Prim.Native.Nat.{ℕ, zero, suc}
use native.Mathlib.Omega.{arith}
use borrow.Author.Tests.{lt-ltb, ne_eqb}
use lib.Dec.{eqb, ltb}

pub positive_nonzero : (x : ℕ) → ltb 0 x ≡ not (eqb x 0)
positive_nonzero zero = refl
positive_nonzero (suc x) = rw (lt-ltb 0 (suc x) (omega arith), ne_eqb (suc x) 0 (λ e. omega arith))

pub not_positive : (x : ℕ) → not (ltb 0 x) ≡ eqb x 0
not_positive x = rw (positive_nonzero x) (not-not (eqb x 0))
