-- Links laid out from lists are the links of these lists, and no others are: so links are orderly exactly where they are laid out from the
-- lists that they lead through.
use mathlib.Core.Path.{◌≡◌, refl, sym, ◌∙◌, ap, subst}
use mathlib.Core.Logic.{◌↔◌}
use mathlib.Core.List.{List, [], ◌∷◌, map}
use Prim.Native.Nat.{ℕ, zero, suc, ◌+◌, ◌<◌, ◌≤◌}
use native.Mathlib.Nat.{add-zero}
use native.Mathlib.Decide.{ℕ_discrete, dec_lt}
use native.Mathlib.Omega.{arith}
use borrow.Author.Tests.{eq-eqb, ne_eqb}
use lib.ListN.{length, get_or, length-append, length-map}
use lib.Seq.{take_at, drop_at}
use Rattle.sequences.specs.Lists.{count, reversed}
use Rattle.sequences.specs.Links.{Chain, Half, Once, Linked, Orderly, lists_in, leads, link_from, or_link, link_in, half_of, links_of}
use Rattle.sequences.proofs.Counts.{count-first, count_all-at}
use Rattle.sequences.proofs.Tabulated.{length-tabulate, get_d_tabulate}
use Rattle.sequences.proofs.Chains.{differ}
use Rattle.sequences.proofs.Halves.{apart-at, cell_inside, elsewhere, once-reversed}
use Rattle.sequences.proofs.Linked.{seen, determined}

-- ---- links by lists

no_link : (b c : ℕ) (l : List ℕ) → count c (b ∷ l) ≡ 0 → link_from b c l ≡ 0
no_link b c [] h = refl
no_link b c (x ∷ l) h =
    elim (ℕ_discrete b c) [
      | yes e ↦ absurd (let k = rw (eq-eqb b c e) at h in omega arith)
      | no d ↦ rw (ne_eqb b c d) (no_link x c l (omega arith))
    ]

or-none : (x y : ℕ) → x ≡ 0 → or_link x y ≡ y
or-none zero y e = refl
or-none (suc x) y e = absurd (omega arith)

or-only : (x y : ℕ) → y ≡ 0 → or_link x y ≡ x
or-only zero y e = e
or-only (suc x) y e = refl

-- counted from the second list on
onward : (b c : ℕ) (ls : List (List ℕ)) (k : ℕ) → link_from (suc b + k) c (get_or ls k []) ≡ link_from (b + suc k) c (get_or ls k [])
onward b c ls k = ap (λ (z : ℕ). link_from z c (get_or ls k [])) (omega arith)

no_link_in : (b c : ℕ) (ls : List (List ℕ)) → ((k : ℕ) → k < length ls → link_from (b + k) c (get_or ls k []) ≡ 0) → link_in b c ls ≡ 0
no_link_in b c [] h = refl
no_link_in b c (l ∷ ls) h =
    or-none (link_from b c l) _ (rw (add-zero b) at (h 0 (omega arith)))
    ∙ no_link_in (suc b) c ls (λ k p. onward b c ls k ∙ h (suc k) (omega arith))

one-link_in : (b c j : ℕ) (ls : List (List ℕ)) → j < length ls → ((k : ℕ) → (k ≡ j → ⊥) → k < length ls → link_from (b + k) c (get_or ls k []) ≡ 0)
    → link_in b c ls ≡ link_from (b + j) c (get_or ls j [])
one-link_in b c j [] p h = absurd (omega arith)
one-link_in b c zero (l ∷ ls) p h =
    rw (add-zero b)
    (or-only (link_from b c l) _ (no_link_in (suc b) c ls (λ k q. onward b c ls k ∙ h (suc k) (λ s. omega arith) (omega arith))))
one-link_in b c (suc j) (l ∷ ls) p h =
    or-none (link_from b c l) _ (rw (add-zero b) at (h 0 (λ s. omega arith) (omega arith)))
    ∙ one-link_in (suc b) c j ls (omega arith) (λ k d q. onward b c ls k ∙ h (suc k) (λ s. d (omega arith)) (omega arith))
    ∙ onward b c ls j

chain_links : (f : ℕ → ℕ) (b : ℕ) (l : List ℕ) → ((z : ℕ) → count z (b ∷ l) ≤ 1)
    → ((c : ℕ) → 0 < count c (b ∷ l) → f c ≡ link_from b c l) → Chain f b l
chain_links f b [] once h = h b (count-first b [])
chain_links f b (x ∷ l) once h = (
  h b (count-first b (x ∷ l)) ∙ rw (eq-eqb b b refl),
  chain_links f x l (λ z. let o = once z in omega arith)
      (λ c p. h c (omega arith) ∙ rw (ne_eqb b c (λ e. differ c b (x ∷ l) once p (sym e)))),
)

-- ---- a half, and both

length_half : (n : ℕ) (ls : List (List ℕ)) → length (half_of n ls) ≡ n + length ls
unfolding half_of
length_half n ls = length-tabulate (n + length ls) (λ c. link_in n c ls)

half_laid : {n : ℕ} {ls : List (List ℕ)} → Once n ls → Half n (leads (half_of n ls)) ls
unfolding half_of
half_laid {n} {ls} o =
    record {
      chains = λ j h.
          chain_links (leads (half_of n ls)) (n + j) (get_or ls j []) (apart-at o j)
          (λ c p. at c (cell_inside o j c h p) ∙ one-link_in n c j ls h (λ k d q. no_link (n + k) c (get_or ls k []) (none j k c d p)));
      zeros = λ x h z.
          at x (omega arith)
          ∙ no_link_in n x ls
          (λ k q. no_link (n + k) x (get_or ls k []) (rw (ne_eqb (n + k) x (λ e. omega arith)) (omega (arith, count_all-at x ls k))));
    }
  where
    at : (c : ℕ) → c < n + length ls → leads (half_of n ls) c ≡ link_in n c ls
    at c h = get_d_tabulate (n + length ls) (λ c. link_in n c ls) c 0 h

    none : (j k c : ℕ) → (k ≡ j → ⊥) → 0 < count c ((n + j) ∷ get_or ls j []) → count c ((n + k) ∷ get_or ls k []) ≡ 0
    none j k c d p =
        elim (dec_lt 0 (count c ((n + k) ∷ get_or ls k []))) [
          | yes q ↦ absurd (elsewhere o j k c c d q p refl)
          | no q ↦ omega arith
        ]

pub laid : {n : ℕ} {ls : List (List ℕ)} → Once n ls → Linked n (length ls) (links_of n ls) ls
laid {n} {ls} o =
    let a = half_of n ls in
    let b = half_of n (map reversed ls) in
    record {
      size = omega (arith, length-append a b, length_half n ls, length_half n (map reversed ls), length-map ls reversed);
      many = refl;
      apart = o;
      ahead = rw (take_at a b (n + length ls) (length_half n ls)) (half_laid o);
      back = rw (drop_at a b (n + length ls) (length_half n ls)) (half_laid (once-reversed o));
    }

-- what is laid out is read back
pub laid-seen : {n : ℕ} {ls : List (List ℕ)} → Once n ls → lists_in n (length ls) (links_of n ls) ≡ ls
laid-seen o = seen (laid o)

pub linked_laid : {n m : ℕ} {s : List ℕ} {ls : List (List ℕ)} → Linked n m s ls → s ≡ links_of n ls
linked_laid {n} {m} {s} {ls} v = determined v (rw v.many at (laid v.apart))

pub orderly_is : (n m : ℕ) (s : List ℕ)
    → Orderly n m s ↔ ((length (lists_in n m s) ≡ m) × Once n (lists_in n m s) × (s ≡ links_of n (lists_in n m s)))
orderly_is n m s = (
  λ v. (v.many, v.apart, linked_laid v),
  λ h.
      let v : Linked n m (links_of n (lists_in n m s)) (lists_in n m s) = rw h.0 at (laid h.1) in
      subst (λ (t : List ℕ). Linked n m t (lists_in n m s)) (sym h.2) v,
)
