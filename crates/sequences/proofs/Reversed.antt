-- Lists from behind: of two parts, of one put between two parts, and twice from behind; who is counted stays the same. Then the same for
-- several lists of which each is read from behind, which is what the half back of links leads through.
use mathlib.Core.Path.{◌≡◌, refl, sym, ◌∙◌, ap}
use mathlib.Core.List.{List, [], ◌∷◌, ◌++◌, map, append_assoc, append-nil}
use Prim.Native.Nat.{ℕ}
use native.Mathlib.Omega.{arith}
use lib.ListN.{get_or, get_or-map}
use Rattle.sequences.specs.Lists.{snoc, reversed, count, count_all}
use Rattle.sequences.proofs.Counts.{count-append}

module _ {A : Type 0} where
  pub reversed-append : (a b : List A) → reversed (a ++ b) ≡ reversed b ++ reversed a
  reversed-append [] b = sym (append-nil (reversed b))
  reversed-append (x ∷ a) b = ap (snoc x) (reversed-append a b) ∙ append_assoc (reversed b) (reversed a) (x ∷ [])

  pub reversed-put : (a : List A) (i : A) (b : List A) → reversed (a ++ (i ∷ b)) ≡ reversed b ++ (i ∷ reversed a)
  reversed-put a i b = reversed-append a (i ∷ b) ∙ append_assoc (reversed b) (i ∷ []) (reversed a)

  pub reversed_twice : (l : List A) → reversed (reversed l) ≡ l
  reversed_twice [] = refl
  reversed_twice (x ∷ l) = reversed-append (reversed l) (x ∷ []) ∙ ap (λ (r : List A). x ∷ r) (reversed_twice l)

pub count-reversed : (x : ℕ) (l : List ℕ) → count x (reversed l) ≡ count x l
count-reversed x [] = refl
count-reversed x (y ∷ l) = omega (arith, count-append x (reversed l) (y ∷ []), count-reversed x l)

-- ---- each of several lists

pub reversed-at : (ls : List (List ℕ)) (j : ℕ) → get_or (map reversed ls) j [] ≡ reversed (get_or ls j [])
reversed-at ls j = get_or-map reversed ls j []

pub each-reversed_twice : (ls : List (List ℕ)) → map reversed (map reversed ls) ≡ ls
each-reversed_twice [] = refl
each-reversed_twice (l ∷ ls) = rw (reversed_twice l) (ap (λ (r : List (List ℕ)). l ∷ r) (each-reversed_twice ls))

pub count_all-reversed : (x : ℕ) (ls : List (List ℕ)) → count_all x (map reversed ls) ≡ count_all x ls
count_all-reversed x [] = refl
count_all-reversed x (l ∷ ls) = omega (arith, count-reversed x l, count_all-reversed x ls)
