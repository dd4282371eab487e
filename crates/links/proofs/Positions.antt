-- A search for a list by the link to its first: the place that it tells, or none.
use mathlib.Core.Path.{◌≡◌, refl, sym, subst}
use mathlib.Core.Bool.{Bool}
use mathlib.Core.List.{List}
use Prim.Native.Nat.{ℕ, ◌+◌, ◌-◌, ◌≤◌}
use native.Mathlib.Omega.{arith}
use native.Mathlib.Decide.{dec_lt}
use borrow.Author.Tests.{lt-ltb, le-ltb}
use lib.Dec.{eqb}
use lib.ListN.{length, take, drop, length-drop}
use lib.Seq.{length-take-le}
use Rattle.std.specs.Prelude.{Option, Some, None, slice_range}
use Rattle.std.specs.Option.{unwrap_or}
use Rattle.std.specs.List.{position, position_or_len}
use Rattle.std.proofs.lemmas.List.Recursion.{is_position_or_len}
use Rattle.sequences.specs.Lists.{first_at}
use Rattle.sequences.proofs.Searches.{first_at-most}
use Rattle.links.specs.Cells.{Below, first_with}

below_position : (p : ℕ → Bool) (l : List ℕ) → Below (length l) (first_at p l) (position p l)
below_position p l =
    let e : first_at p l ≡ position_or_len p l = is_position_or_len (first_at p) p refl (λ x xs. let s : 1 + first_at p xs ≡ first_at p xs + 1 = omega arith in grind arith) l in
    rw e (elim (dec_lt (position_or_len p l) (length l)) [
      | yes h ↦ rw (lt-ltb _ _ h) (refl, h)
      | no h ↦ rw (le-ltb (position_or_len p l) (length l) (omega arith)) (omega (arith, e, first_at-most p l))
    ])

pub first_told : (m from link : ℕ) (s : List ℕ) (r : Option ℕ) → from + m ≤ length s → r ≡ position (λ x. eqb x link) (slice_range s from (from + m))
    → Below m (first_with m from link s) r
first_told m from link s r h e =
    let p : ℕ → Bool = λ x. eqb x link in
    let l = take m (drop from s) in
    let size : length l ≡ m = length-take-le m (drop from s) (omega (arith, length-drop from s)) in
    let n-is : from + m - from ≡ m = omega arith in
    rw (e, n-is) (subst (λ (k : ℕ). Below k (first_at p l) (position p l)) size (below_position p l))

pub told_or : (m from link : ℕ) (s : List ℕ) (r : Option ℕ) → from + m ≤ length s → r ≡ position (λ x. eqb x link) (slice_range s from (from + m))
    → unwrap_or r m ≡ first_with m from link s
told_or m from link s r h e = by_cases r (first_told m from link s r h e)
  where
    by_cases : (r : Option ℕ) → Below m (first_with m from link s) r → unwrap_or r m ≡ first_with m from link s
    by_cases None t = sym t
    by_cases (Some y) t = sym t.0
