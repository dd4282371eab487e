-- `all` and `any` over the numbers below n, at a closure that computes a test.
use mathlib.Core.Path.{◌≡◌, sym, ◌∙◌}
use mathlib.Core.Bool.{Bool, ◌&&◌, ◌||◌, and-true, and_assoc}
use Prim.Native.Nat.{ℕ, zero, suc, ◌+◌}
use native.Mathlib.Nat.{add-zero, zero-add}
use native.Mathlib.Omega.{arith}
use denote.Param.Members.{Mut}
use Rattle.std.specs.declared.ops.Range.{Range}
use Rattle.std.specs.Fn.{Called}
use Rattle.std.specs.Iterator.{ChecksAll, ChecksAny}
use Rattle.std.specs.List.{list_all, list_any, range_with_len}
use Rattle.std.proofs.Common.{add-one}
use Rattle.std.proofs.Math.Bool.{or_assoc, or-false}
use Rattle.std.proofs.iter.Yields.{nat_range_steps}
use Rattle.std.proofs.lemmas.Iterator.{YieldsList-from_range}
use Rattle.std.proofs.lemmas.Iterator.Search.{all_from_yields_List, any_from_yields_List}
use Rattle.sequences.specs.Lists.{every_below, some_below}

module _ (test : ℕ → Bool) where
  all_onward : (a n : ℕ) → every_below a test && list_all test (range_with_len a n) ≡ every_below (a + n) test
  unfolding every_below
  all_onward a zero = rw (add-zero a) (and-true (every_below a test))
  all_onward a (suc n) =
      let same : suc a + n ≡ a + suc n = omega arith in
      sym (and_assoc (every_below a test) (test a) (list_all test (range_with_len (a + 1) n))) ∙ rw (add-one a, ← same) (all_onward (suc a) n)

  any_onward : (a n : ℕ) → some_below a test || list_any test (range_with_len a n) ≡ some_below (a + n) test
  unfolding some_below
  any_onward a zero = rw (add-zero a) (or-false (some_below a test))
  any_onward a (suc n) =
      let same : suc a + n ≡ a + suc n = omega arith in
      sym (or_assoc (some_below a test) (test a) (list_any test (range_with_len (a + 1) n))) ∙ rw (add-one a, ← same) (any_onward (suc a) n)

  pub all_below : (n : ℕ) → list_all test (range_with_len 0 n) ≡ every_below n test
  unfolding every_below
  all_below n = rw (zero-add n) at (all_onward 0 n)

  pub any_below : (n : ℕ) → list_any test (range_with_len 0 n) ≡ some_below n test
  unfolding some_below
  any_below n = rw (zero-add n) at (any_onward 0 n)

  module _ {F : Type 0} {g : Mut F (ℕ × Unit {0}) Bool} {s u : Range ℕ} {f : F} {r : Bool} (n : ℕ) (e : s ≡ record { start = 0; end = n }) where
    -- the clauses `ran` tell the results
    pub all_told : ChecksAll nat_range_steps g s f r u
        → ((x : ℕ) (b : Bool) (q : F) → Called g f (x, tt) b q → (q ≡ f) × (b ≡ test x)) → r ≡ every_below n test
    all_told ran computes = all_from_yields_List test u f r ran (YieldsList-from_range 0 n n e (omega arith)) computes ∙ all_below n

    pub any_told : ChecksAny nat_range_steps g s f r u
        → ((x : ℕ) (b : Bool) (q : F) → Called g f (x, tt) b q → (q ≡ f) × (b ≡ test x)) → r ≡ some_below n test
    any_told ran computes = any_from_yields_List test u f r ran (YieldsList-from_range 0 n n e (omega arith)) computes ∙ any_below n
