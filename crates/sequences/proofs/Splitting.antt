-- A list in two groups, its first k and the others: a change of all is one of each group, and a change of one place is one of the group
-- that has the place.
use mathlib.Core.Path.{◌≡◌, refl, ap}
use mathlib.Core.List.{List, [], ◌∷◌, map}
use Prim.Native.Nat.{ℕ, zero, suc, ◌+◌, ◌<◌}
use native.Mathlib.Nat.{zero-add}
use native.Mathlib.Omega.{arith}
use lib.ListN.{take, drop}
use Rattle.sequences.specs.Lists.{alter}

module _ {A B : Type 0} (f : A → B) where
  pub take-map : (k : ℕ) (l : List A) → take k (map f l) ≡ map f (take k l)
  take-map zero l = refl
  take-map (suc k) [] = refl
  take-map (suc k) (x ∷ l) = ap (λ (r : List B). f x ∷ r) (take-map k l)

  pub drop-map : (k : ℕ) (l : List A) → drop k (map f l) ≡ map f (drop k l)
  drop-map zero l = refl
  drop-map (suc k) [] = refl
  drop-map (suc k) (x ∷ l) = drop-map k l

module _ {A : Type 0} (g : A → A) where
  pub take-alter-front : (p k : ℕ) (l : List A) → p < k → take k (alter p g l) ≡ alter p g (take k l)
  take-alter-front p zero l h = absurd (omega arith)
  take-alter-front zero (suc k) [] h = refl
  take-alter-front zero (suc k) (x ∷ l) h = refl
  take-alter-front (suc p) (suc k) [] h = refl
  take-alter-front (suc p) (suc k) (x ∷ l) h = ap (λ (r : List A). x ∷ r) (take-alter-front p k l (omega arith))

  pub drop-alter-front : (p k : ℕ) (l : List A) → p < k → drop k (alter p g l) ≡ drop k l
  drop-alter-front p zero l h = absurd (omega arith)
  drop-alter-front zero (suc k) [] h = refl
  drop-alter-front zero (suc k) (x ∷ l) h = refl
  drop-alter-front (suc p) (suc k) [] h = refl
  drop-alter-front (suc p) (suc k) (x ∷ l) h = drop-alter-front p k l (omega arith)

  pub drop-alter-rear : (j k : ℕ) (l : List A) → drop k (alter (k + j) g l) ≡ alter j g (drop k l)
  drop-alter-rear j zero l = rw (zero-add j)
  drop-alter-rear zero (suc k) [] = let e : suc k + 0 ≡ suc (k + 0) = omega arith in rw e
  drop-alter-rear (suc j) (suc k) [] = let e : suc k + suc j ≡ suc (k + suc j) = omega arith in rw e
  drop-alter-rear j (suc k) (x ∷ l) = let e : suc k + j ≡ suc (k + j) = omega arith in rw e (drop-alter-rear j k l)
