-- The least of some counters, taken one after another from the first on.
use mathlib.Core.Path.{◌≡◌, sym, ◌∙◌, ap}
use mathlib.Core.List.{List, [], ◌∷◌}
use Prim.Native.Nat.{ℕ}
use native.Mathlib.Omega.{arith}
use Rattle.std.specs.List.{fold}
use Rattle.sequences.specs.Lists.{nearer, nearest}
use Rattle.sequences.proofs.Counters.{nearest-start, nearest-next}

joined : (x y z : ℕ) → nearer (nearer x y) z ≡ nearer x (nearer y z)
joined x y z =
    nearest-next (λ n. n) x 0 (y ∷ z ∷ []) 1 (omega arith) (ap (nearer x) (nearest-start (λ n. n) y []))
    ∙ ap (λ (n : ℕ). nearer x (nearer y n)) (sym (nearest-start (λ n. n) z []))

from : (first : ℕ) (l : List ℕ) → fold nearer first l ≡ nearer first (nearest l)
from first [] = nearest-start (λ n. n) first []
from first (x ∷ xs) = from (nearer first x) xs ∙ joined first x (nearest xs)

pub nearest_in_turn : (l : List ℕ) → fold nearer 0 l ≡ nearest l
nearest_in_turn l = from 0 l
