-- A list told by what stands at each place: its length, one place of it, when two such lists are the same, and one of them with one place
-- changed.
use mathlib.Core.Path.{◌≡◌, refl, ap}
use Prim.Native.Nat.{ℕ, zero, suc, ◌<◌}
use native.Mathlib.Omega.{arith}
use lib.ListN.{length, get_or}
use Rattle.sequences.specs.Lists.{alter, tabulate}

module _ {A : Type 0} where
  pub length-tabulate : (n : ℕ) (f : ℕ → A) → length (tabulate n f) ≡ n
  unfolding tabulate
  length-tabulate zero f = refl
  length-tabulate (suc n) f = ap suc (length-tabulate n (λ i. f (suc i)))

  pub get_d_tabulate : (n : ℕ) (f : ℕ → A) (i : ℕ) (d : A) → i < n → get_or (tabulate n f) i d ≡ f i
  unfolding tabulate
  get_d_tabulate zero f i d h = absurd (omega arith)
  get_d_tabulate (suc n) f zero d h = refl
  get_d_tabulate (suc n) f (suc i) d h = get_d_tabulate n (λ i. f (suc i)) i d (omega arith)

  pub tabulate-same : (n : ℕ) (f g : ℕ → A) → ((i : ℕ) → i < n → f i ≡ g i) → tabulate n f ≡ tabulate n g
  unfolding tabulate
  tabulate-same zero f g e = refl
  tabulate-same (suc n) f g e =
      rw (e 0 (omega arith), tabulate-same n (λ i. f (suc i)) (λ i. g (suc i)) (λ i h. e (suc i) (omega arith)))

  pub tabulate-alter : (n i : ℕ) (f r : ℕ → A) (g : A → A) → i < n → r i ≡ g (f i) → ((j : ℕ) → j < n → (j ≡ i → ⊥) → r j ≡ f j)
      → tabulate n r ≡ alter i g (tabulate n f)
  unfolding tabulate
  tabulate-alter zero i f r g h e o = absurd (omega arith)
  tabulate-alter (suc n) zero f r g h e o =
      rw (e, tabulate-same n (λ i. r (suc i)) (λ i. f (suc i)) (λ j l. o (suc j) (omega arith) (λ z. omega arith)))
  tabulate-alter (suc n) (suc i) f r g h e o =
      rw (
        o 0 (omega arith) (λ z. omega arith),
        tabulate-alter n i (λ j. f (suc j)) (λ j. r (suc j)) g (omega arith) e (λ j l z. o (suc j) (omega arith) (λ y. z (omega arith))),
      )
