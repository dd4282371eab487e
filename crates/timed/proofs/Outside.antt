-- What holds of all places from a number on, or below it, one place further.
use Rattle.std.proofs.Common.{◌≡◌, ℕ, ◌+◌, ◌-◌, ◌<◌, ◌≤◌, List, length, get_or, ap, ◌∙◌, arith}
use native.Mathlib.Decide.{ℕ_discrete, dec_lt}
use lib.ListN.{get_or-eq_default}

module _ (P : ℕ → Type 0) (n : ℕ) where
  pub one_lower : P (n - 1) → ((i : ℕ) → n ≤ i → P i) → (i : ℕ) → n - 1 ≤ i → P i
  one_lower this above i h =
      elim (ℕ_discrete i (n - 1)) [
        | yes e ↦ rw e this
        | no e ↦ above i (omega arith)
      ]

  pub one_higher : P n → ((i : ℕ) → i < n → P i) → (i : ℕ) → i < n + 1 → P i
  one_higher this below i h =
      elim (ℕ_discrete i n) [
        | yes e ↦ rw e this
        | no e ↦ below i (omega arith)
      ]

-- past the end of a list
pub past_end : {A : Type 0} (f : A → ℕ) (l : List A) (d : A) → f d ≡ 0 → (n : ℕ) → length l ≡ n → (i : ℕ) → n ≤ i → f (get_or l i d) ≡ 0
past_end f l d none n many i h = ap f (get_or-eq_default l d {n = i} (omega arith)) ∙ none

-- what follows of each below n, and holds from n on, holds from anywhere on
pub none_behind : {P Q : ℕ → Type 0} (n m : ℕ) → ((i : ℕ) → m ≤ i → i < n → Q i) → ((i : ℕ) → i < n → Q i → P i) → ((i : ℕ) → n ≤ i → P i)
    → (i : ℕ) → m ≤ i → P i
none_behind n m below each above i h =
    elim (dec_lt i n) [
      | yes l ↦ each i l (below i h l)
      | no l ↦ above i (omega arith)
    ]
