-- A half of the links, and its lists, of which each has its own cells: i put between two parts of one list or taken out from there. The half
-- back is a half of the lists read from behind, so what is shown of one half here serves both.
use mathlib.Core.Path.{subst, ◌≡◌, sym, ◌∙◌, ap}
use mathlib.Core.Logic.{◌↔◌}
use mathlib.Core.List.{List, [], ◌∷◌, ◌++◌, map}
use Prim.Native.Nat.{ℕ, suc, ◌+◌, ◌<◌, ◌≤◌}
use native.Mathlib.Decide.{ℕ_discrete, dec_lt}
use native.Mathlib.Omega.{arith}
use borrow.Author.Tests.{eq-eqb, ne_eqb}
use lib.ListN.{length, get_or, length-map}
use Rattle.sequences.specs.Lists.{count, count_all, reversed}
use Rattle.sequences.specs.Links.{last_cell, Chain, Half, Once}
use Rattle.sequences.proofs.Counts.{count-append, count_other, count-first, count_mid, count_two, count_all-at, few}
use Rattle.sequences.proofs.Reversed.{reversed-append, reversed-put, reversed-at, count_all-reversed}
use Rattle.sequences.proofs.Chains.{Handed, handed-back, count-last, chain_at, chain_frame, chain_tie}

-- ---- lists on which everybody stands once at most

module _ {n : ℕ} {ls : List (List ℕ)} (o : Once n ls) where
  -- who stands on a list is known
  pub member_inside : (j x : ℕ) → 0 < count x (get_or ls j []) → x < n
  member_inside j x h =
      elim (dec_lt x n) [
        | yes k ↦ k
        | no k ↦ absurd (omega (arith, o.known x (omega arith), count_all-at x ls j))
      ]

  -- no list is longer than there are ids
  pub list_short : (j : ℕ) → length (get_or ls j []) ≤ n
  list_short j = few n (get_or ls j []) (λ x. omega (arith, o.once x, count_all-at x ls j)) (λ x h. omega (arith, o.known x h, count_all-at x ls j))

  -- a list with the cell before it has nobody twice
  pub apart-at : (j z : ℕ) → count z ((n + j) ∷ get_or ls j []) ≤ 1
  apart-at j z =
      elim (ℕ_discrete (n + j) z) [
        | yes e ↦ rw (eq-eqb (n + j) z e) (omega (arith, o.known z (omega arith), count_all-at z ls j))
        | no d ↦ rw (ne_eqb (n + j) z d) (omega (arith, o.once z, count_all-at z ls j))
      ]

  -- its cells are cells of the half
  pub cell_inside : (j c : ℕ) → j < length ls → 0 < count c ((n + j) ∷ get_or ls j []) → c < n + length ls
  cell_inside j c h p =
      elim (ℕ_discrete (n + j) c) [
        | yes e ↦ omega arith
        | no d ↦ omega (arith, member_inside j c (omega (arith, rw (ne_eqb (n + j) c d) at p)))
      ]

  pub last_inside : (j : ℕ) (a b : List ℕ) → j < length ls → get_or ls j [] ≡ a ++ b → last_cell (n + j) a < n + length ls
  last_inside j a b h e =
      let y = last_cell (n + j) a in
      cell_inside j y h (rw e (omega (arith, count-last (n + j) a, count-append y a b)))

  -- no cell is on two lists
  pub elsewhere : (j k x y : ℕ) → (k ≡ j → ⊥) → 0 < count x ((n + k) ∷ get_or ls k []) → 0 < count y ((n + j) ∷ get_or ls j []) → x ≡ y → ⊥
  elsewhere j k x y d p q e =
      let q' = subst (λ (z : ℕ). 0 < count z ((n + j) ∷ get_or ls j [])) (sym e) q in
      let two = count_two x j k ls d in
      elim (dec_lt x n) [
        | yes h ↦
            let p₂ = rw (ne_eqb (n + k) x (λ s. omega arith)) at p in
            let q₂ = rw (ne_eqb (n + j) x (λ s. omega arith)) at q' in
            omega (arith, o.once x)
        | no h ↦
            let none = o.known x (omega arith) in
            elim (ℕ_discrete (n + k) x) [
              | yes s ↦ let q₂ = rw (ne_eqb (n + j) x (λ t. d (omega arith))) at q' in omega arith
              | no s ↦ let p₂ = rw (ne_eqb (n + k) x s) at p in omega arith
            ]
      ]

-- ---- one change

-- `more` is `ls` with i put between a and b on list j
pub record Between (ls : List (List ℕ)) (j : ℕ) (a : List ℕ) (i : ℕ) (b : List ℕ) (more : List (List ℕ)) : Type 0 where
  pub within : j < length ls
  pub size : length more ≡ length ls
  pub parts : get_or ls j [] ≡ a ++ b
  pub put : get_or more j [] ≡ a ++ (i ∷ b)
  pub others : (k : ℕ) → (k ≡ j → ⊥) → get_or more k [] ≡ get_or ls k []
  pub counts : (x : ℕ) → count_all x more ≡ count x (i ∷ []) + count_all x ls

module _ {n : ℕ} {ls more : List (List ℕ)} {j i : ℕ} {a b : List ℕ} (o : Once n more) (w : Between ls j a i b more) where
  pub fewer : Once n ls
  fewer = record { once = λ x. omega (arith, w.counts x, o.once x); known = λ x h. omega (arith, w.counts x, o.known x h) }

  pub id-within : i < n
  id-within = member_inside o j i (rw w.put (count_mid i a b))

  pub cell-within : last_cell (n + j) a < n + length ls
  cell-within = last_inside fewer j a b w.within w.parts

  -- the cell before i and i are cells of list j, and differ
  cell_at : 0 < count (last_cell (n + j) a) ((n + j) ∷ get_or more j [])
  cell_at = rw w.put (omega (arith, count-last (n + j) a, count-append (last_cell (n + j) a) a (i ∷ b)))

  id-at : 0 < count i ((n + j) ∷ get_or more j [])
  id-at = rw w.put (omega (arith, count_mid i a b))

  alone : (z : ℕ) → count z ((n + j) ∷ (a ++ (i ∷ b))) ≤ 1
  alone z = rw w.put at (apart-at o j z)

  pub cell_differs : last_cell (n + j) a ≡ i → ⊥
  cell_differs e =
      let p = subst (λ (z : ℕ). 0 < count z ((n + j) ∷ a)) e (count-last (n + j) a) in
      omega (arith, alone i, count-append i a (i ∷ b), count-first i b)

  module _ {f g : ℕ → ℕ} (t : Handed f g (last_cell (n + j) a) i (suc i)) where
    -- list j gets or loses i; another list has neither cell, and stays
    chains_tie : (k : ℕ) → k < length ls → Chain f (n + k) (get_or ls k []) ↔ Chain g (n + k) (get_or more k [])
    chains_tie k h =
        elim (ℕ_discrete k j) [
          | yes e ↦ rw (e, w.parts, w.put) (chain_tie f g i b (n + j) a alone t)
          | no d ↦
              let l = get_or more k [] in
              let same : (x : ℕ) → 0 < count x ((n + k) ∷ l) → g x ≡ f x =
              λ x p. t.rest x (elsewhere o j k x (last_cell (n + j) a) d p cell_at) (elsewhere o j k x i d p id-at) in
              let before = same (n + k) (count-first (n + k) l) in
              rw (← w.others k d) (
                chain_frame f g (n + k) (n + k) l before (λ x p. same x (omega arith)),
                chain_frame g f (n + k) (n + k) l (sym before) (λ x p. sym (same x (omega arith))),
              )
        ]

    -- who stands on no list keeps his link
    off-same : (x : ℕ) → x < n → (x ≡ i → ⊥) → count_all x ls ≡ 0 → g x ≡ f x
    off-same x h d z =
        t.rest x
        (λ e.
        let p₀ = subst (λ (z : ℕ). 0 < count z ((n + j) ∷ a)) (sym e) (count-last (n + j) a) in
        let p = rw (ne_eqb (n + j) x (λ s. omega arith)) at p₀ in
        omega (arith, count-append x a b, rw w.parts at (count_all-at x ls j)))
        d

    pub half_tie : Half n f ls → Half n g more
    half_tie h =
        record {
          chains = λ k p. let q : k < length ls = omega (arith, w.size) in (chains_tie k q).0 (h.chains k q);
          zeros = λ x p z.
              let d : x ≡ i → ⊥ = λ e. let one = rw (eq-eqb i x (sym e)) at (w.counts x) in omega arith in
              off-same x p d (omega (arith, w.counts x)) ∙ h.zeros x p (omega (arith, w.counts x));
        }

  pub half_untie : {f g : ℕ → ℕ} → Handed f g i (last_cell (n + j) a) 0 → Half n f more → Half n g ls
  half_untie {f} {g} u h =
      let t = handed-back u (chain_at f (n + j) a (i ∷ b) (rw w.put at (h.chains j (omega (arith, w.size, w.within))))) in
      record {
        chains = λ k p. (chains_tie t k p).1 (h.chains k (omega (arith, w.size)));
        zeros = λ x p z.
            elim (ℕ_discrete x i) [
              | yes e ↦ rw e u.own
              | no d ↦ sym (off-same t x p d z) ∙ h.zeros x p (omega (arith, w.counts x, count_other x i d))
            ];
      }

-- ---- from behind

pub between_reversed : {ls more : List (List ℕ)} {j i : ℕ} {a b : List ℕ} → Between ls j a i b more
    → Between (map reversed ls) j (reversed b) i (reversed a) (map reversed more)
between_reversed {ls} {more} {j} {i} {a} {b} w =
    record {
      within = omega (arith, w.within, length-map ls reversed);
      size = length-map more reversed ∙ w.size ∙ sym (length-map ls reversed);
      parts = reversed-at ls j ∙ ap reversed w.parts ∙ reversed-append a b;
      put = reversed-at more j ∙ ap reversed w.put ∙ reversed-put a i b;
      others = λ k d. reversed-at more k ∙ ap reversed (w.others k d) ∙ sym (reversed-at ls k);
      counts = λ x. omega (arith, count_all-reversed x ls, count_all-reversed x more, w.counts x);
    }

pub once-reversed : {n : ℕ} {ls : List (List ℕ)} → Once n ls → Once n (map reversed ls)
once-reversed {n} {ls} o =
    record {
      once = λ x. omega (arith, count_all-reversed x ls, o.once x);
      known = λ x h. omega (arith, count_all-reversed x ls, o.known x h);
    }
