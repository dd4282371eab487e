-- The highest ids that the places of a list of length n may hold: 15 before its end, 0 past it.
use mathlib.Core.Path.{◌≡◌, ◌∙◌}
use Prim.Native.Nat.{ℕ, ◌+◌, ◌-◌, ◌<◌, ◌≤◌}
use native.Mathlib.Omega.{arith}
use lib.ListN.{get_or, replicate, get_or-replicate, get_or-append}
use lib.Seq.{get_or-append-add}
use Rattle.soundness.specs.Lists.{tops}

module _ (n k : ℕ) where
  pub top_before : n ≤ 16 → k < n → get_or tops (16 - n + k) 0 ≡ 15
  unfolding tops
  top_before room h =
      let i : 16 - n + k < 16 = omega arith in
      get_or-append (replicate 16 15) (replicate 16 0) 0 (16 - n + k) i ∙ get_or-replicate 16 (16 - n + k) 15 0 i

  pub top_past : n ≤ k → k < 16 → get_or tops (16 - n + k) 0 ≡ 0
  unfolding tops
  top_past h i =
      let e : 16 - n + k ≡ 16 + (k - n) = omega arith in
      rw (e, get_or-append-add {A = ℕ} (replicate 16 15) (replicate 16 0) (k - n) 0) (get_or-replicate 16 (k - n) 0 0 (omega arith))
