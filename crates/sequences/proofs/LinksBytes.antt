-- The links of lists of ids below 256 are bytes: a link is 0, or one more than somebody who stands on a list.
use mathlib.Core.Bool.{Bool, true, false, cond}
use mathlib.Core.List.{List, [], ◌∷◌, map}
use Prim.Native.Nat.{ℕ, zero, suc, ◌+◌, ◌<◌, ◌≤◌}
use native.Mathlib.Decide.{dec_lt}
use native.Mathlib.Omega.{arith}
use lib.Dec.{eqb}
use lib.ListN.{length}
use Rattle.sequences.specs.Lists.{count, count_all, reversed, tabulate}
use Rattle.sequences.specs.Bytes.{Bytes}
use Rattle.sequences.specs.Links.{Once, link_from, or_link, link_in, half_of, links_of}
use Rattle.sequences.proofs.Counts.{count-first}
use Rattle.sequences.proofs.Each.{each_append, each_placed}
use Rattle.sequences.proofs.Tabulated.{length-tabulate, get_d_tabulate}
use Rattle.sequences.proofs.Halves.{once-reversed}

module _ (n : ℕ) where
  cond-most : (t : Bool) (x y : ℕ) → x ≤ n → y ≤ n → cond t x y ≤ n
  cond-most true x y h k = h
  cond-most false x y h k = k

  or_most : (x y : ℕ) → x ≤ n → y ≤ n → or_link x y ≤ n
  or_most zero y h k = k
  or_most (suc x) y h k = h

  from-most : (b c : ℕ) (l : List ℕ) → ((x : ℕ) → 0 < count x l → x < n) → link_from b c l ≤ n
  from-most b c [] h = omega arith
  from-most b c (x ∷ l) h =
      cond-most (eqb b c) (suc x) (link_from x c l) (omega (arith, h x (count-first x l))) (from-most x c l (λ z p. h z (omega arith)))

  in_most : (b c : ℕ) (ls : List (List ℕ)) → ((x : ℕ) → 0 < count_all x ls → x < n) → link_in b c ls ≤ n
  in_most b c [] h = omega arith
  in_most b c (l ∷ ls) h =
      or_most (link_from b c l) (link_in (suc b) c ls) (from-most b c l (λ x p. h x (omega arith))) (in_most (suc b) c ls (λ x p. h x (omega arith)))

half_bytes : {n : ℕ} {ls : List (List ℕ)} → Once n ls → n < 256 → Bytes (half_of n ls)
unfolding half_of
half_bytes {n} {ls} o small =
    let link : ℕ → ℕ = λ c. link_in n c ls in
    let inside : (x : ℕ) → 0 < count_all x ls → x < n = λ x p.
    elim (dec_lt x n) [
      | yes h ↦ h
      | no h ↦ absurd (omega (arith, o.known x (omega arith)))
    ] in
    each_placed (λ (b : ℕ). b < 256) 0 (tabulate (n + length ls) link)
    (λ c h. omega (arith, in_most n n c ls inside, get_d_tabulate (n + length ls) link c 0 (omega (arith, length-tabulate (n + length ls) link))))

pub links-bytes : {n : ℕ} {ls : List (List ℕ)} → Once n ls → n < 256 → Bytes (links_of n ls)
links-bytes {n} {ls} o small =
    each_append (λ (b : ℕ). b < 256) (half_of n ls) (half_of n (map reversed ls)) (half_bytes o small) (half_bytes (once-reversed o) small)
