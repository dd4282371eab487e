-- The tests that compute, `once` and `orderly-links`, pass exactly where `Once` and `Orderly` hold: what a loop tells of bytes is what the
-- contracts ask for.
use mathlib.Core.Path.{◌≡◌, refl, sym, ◌∙◌, ap}
use mathlib.Core.Bool.{true, ◌&&◌, false≢true}
use mathlib.Core.List.{List, [], ◌∷◌}
use Prim.Native.Nat.{ℕ, ◌≤◌}
use native.Mathlib.Decide.{dec_lt}
use native.Mathlib.Omega.{arith}
use borrow.Author.Tests.{eq-eqb, eqb-true, lt-ltb, le-leb, leb-true}
use lib.Dec.{eqb, ltb, leb}
use lib.ListN.{length, get_or}
use Rattle.sequences.specs.Lists.{count_all, every, every_below, same_list}
use Rattle.sequences.specs.Links.{Once, Orderly, lists_in, links_of, once, orderly_links}
use Rattle.sequences.proofs.Counts.{count_all_beyond}
use Rattle.sequences.proofs.Parts.{every_if_counted}
use Rattle.sequences.proofs.Tests.{both, left, right, every-from, every_below-at, every_below-from}
use Rattle.sequences.proofs.Halves.{member_inside}
use Rattle.sequences.proofs.LinksLaid.{orderly_is}

same_true : (s t : List ℕ) → same_list s t ≡ true → s ≡ t
same_true [] [] h = refl
same_true [] (y ∷ t) h = absurd (false≢true h)
same_true (x ∷ s) [] h = absurd (false≢true h)
same_true (x ∷ s) (y ∷ t) h =
    let e = eqb-true x y (left (eqb x y) (same_list s t) h) in
    let r = same_true s t (right (eqb x y) (same_list s t) h) in
    cc

same_self : (s : List ℕ) → same_list s s ≡ true
same_self [] = refl
same_self (x ∷ s) = both (eq-eqb x x refl) (same_self s)

pub once_true : (n : ℕ) (ls : List (List ℕ)) → once n ls ≡ true → Once n ls
unfolding once
once_true n ls h =
    let ids = every (λ l. every (λ x. ltb x n) l) ls in
    let ones = every_below n (λ x. leb (count_all x ls) 1) in
    let beyond : (x : ℕ) → n ≤ x → count_all x ls ≡ 0 = λ x k. count_all_beyond n ls x (left ids ones h) k in
    record {
      once = λ x.
          elim (dec_lt x n) [
            | yes k ↦ leb-true (count_all x ls) 1 (every_below-at (λ x. leb (count_all x ls) 1) n x k (right ids ones h))
            | no k ↦ omega (arith, beyond x (omega arith))
          ];
      known = beyond;
    }

pub once_passes : (n : ℕ) (ls : List (List ℕ)) → Once n ls → once n ls ≡ true
unfolding once
once_passes n ls o =
    both
    (every-from (λ l. every (λ x. ltb x n) l) [] ls
    (λ j h. every_if_counted (λ x. ltb x n) (get_or ls j []) (λ x c. lt-ltb x n (member_inside o j x c))))
    (every_below-from (λ x. leb (count_all x ls) 1) n (λ x h. le-leb (count_all x ls) 1 (o.once x)))

pub test_true : (n m : ℕ) (s : List ℕ) → orderly_links n m s ≡ true → Orderly n m s
unfolding orderly_links
test_true n m s h =
    let ls = lists_in n m s in
    let a = eqb (length ls) m in
    let b = once n ls in
    let c = same_list s (links_of n ls) in
    let r = right a (b && c) h in
    (orderly_is n m s).1 (eqb-true (length ls) m (left a (b && c) h), once_true n ls (left b c r), same_true s (links_of n ls) (right b c r))

pub test_passes : (n m : ℕ) (s : List ℕ) → Orderly n m s → orderly_links n m s ≡ true
unfolding orderly_links
test_passes n m s o =
    let ls = lists_in n m s in
    let r = (orderly_is n m s).0 o in
    both (eq-eqb (length ls) m r.0) (both (once_passes n ls r.1) (ap (same_list s) (sym r.2) ∙ same_self s))
