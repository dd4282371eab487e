-- A loop that stops at the first that fails: while it goes on all before have passed, and where it stops not all pass.
use mathlib.Core.Path.{◌≡◌, sym, ◌∙◌}
use mathlib.Core.Bool.{Bool, true, false}
use Prim.Native.Nat.{ℕ, ◌+◌, ◌<◌}
use Rattle.sequences.specs.Lists.{every_below, some_below}
use Rattle.sequences.proofs.Tests.{untrue, every_below-at, every_below_grown, some_below_grown, some_below-from}

module _ (f : ℕ → Bool) where
  pub one_passes : (n : ℕ) {b : Bool} → every_below n f ≡ true → b ≡ f n → b ≡ true → every_below (n + 1) f ≡ true
  one_passes n p q e = sym (every_below_grown f n (sym p) q) ∙ e

  pub one_fails : (n k : ℕ) {b : Bool} → k < n → b ≡ f k → b ≡ false → false ≡ every_below n f
  one_fails n k h q e = sym (untrue (every_below n f) (λ p. sym e ∙ q ∙ every_below-at f n k h p))

  -- and one that stops at the first that passes
  pub none_passes : (n : ℕ) {b : Bool} → some_below n f ≡ false → b ≡ f n → b ≡ false → some_below (n + 1) f ≡ false
  none_passes n p q e = sym (some_below_grown f n (sym p) q) ∙ e

  pub one_found : (n k : ℕ) {b : Bool} → k < n → b ≡ f k → b ≡ true → true ≡ some_below n f
  one_found n k h q e = sym (some_below-from f n k h (sym q ∙ e))
