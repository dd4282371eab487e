-- A list falls exactly where nobody on it is above who stands before it; and who stands before it is told by its previous link.
use mathlib.Core.Path.{◌≡◌, refl, sym, ◌∙◌, ap}
use mathlib.Core.Bool.{Bool, true, ◌||◌}
use mathlib.Core.List.{List, [], ◌∷◌, ◌++◌, map}
use Prim.Native.Nat.{ℕ, suc, ◌+◌, ◌-◌, ◌<◌, ◌≤◌}
use native.Mathlib.Omega.{arith}
use borrow.Author.Tests.{leb-true, le-leb, ne_eqb}
use lib.Dec.{eqb, leb}
use lib.ListN.{get_or, drop, length-map}
use lib.Seq.{get_or-drop}
use Rattle.sequences.specs.Lists.{snoc, reversed, count, falls, falls_from}
use Rattle.sequences.specs.Links.{leads, last_cell, head_link, Linked}
use Rattle.sequences.proofs.Tests.{both, left, right, or_right}
use Rattle.sequences.proofs.Parts.{counted_below}
use Rattle.sequences.proofs.Counts.{count_mid}
use Rattle.sequences.proofs.Removal.{split_counted}
use Rattle.sequences.proofs.Reversed.{reversed-at, reversed-put}
use Rattle.sequences.proofs.Chains.{chain_after}

-- not above who a link leads to
abbrev pub follows : (ℕ → ℕ) → ℕ → ℕ → Bool
follows f x link = eqb link 0 || leb (f x) (f (link - 1))

-- the link to a part's last
head_snoc : (x : ℕ) (l : List ℕ) → 0 < head_link l → head_link (snoc x l) ≡ head_link l
head_snoc x [] h = absurd (omega arith)
head_snoc x (y ∷ l) h = refl

head_last : (c : ℕ) (a : List ℕ) → head_link (reversed (c ∷ a)) ≡ suc (last_cell c a)
head_last c [] = refl
head_last c (y ∷ a) = let r = head_last y a in head_snoc c (reversed (y ∷ a)) (omega arith) ∙ r

module _ (f : ℕ → ℕ) where
  falls_step : (c : ℕ) (a : List ℕ) (x : ℕ) (b : List ℕ) → falls_from (f c) (map f (a ++ (x ∷ b))) ≡ true → f x ≤ f (last_cell c a)
  falls_step c [] x b e = leb-true (f x) (f c) (left (leb (f x) (f c)) (falls_from (f x) (map f b)) e)
  falls_step c (y ∷ a) x b e = falls_step y a x b (right (leb (f y) (f c)) (falls_from (f y) (map f (a ++ (x ∷ b)))) e)

  step_falls : (c : ℕ) (l : List ℕ) → ((a : List ℕ) (x : ℕ) (b : List ℕ) → l ≡ a ++ (x ∷ b) → f x ≤ f (last_cell c a))
      → falls_from (f c) (map f l) ≡ true
  step_falls c [] h = refl
  step_falls c (y ∷ l) h =
      both (le-leb (f y) (f c) (h [] y l refl)) (step_falls y l (λ a x b e. h (y ∷ a) x b (ap (λ (r : List ℕ). y ∷ r) e)))

  follows_from : (x link p : ℕ) → link ≡ suc p → f x ≤ f p → follows f x link ≡ true
  follows_from x link p e h =
      let back : link - 1 ≡ p = omega arith in
      or_right (eqb link 0) (leb (f x) (f (link - 1))) (rw back (le-leb (f x) (f p) h))

  follows_least : (x link p : ℕ) → link ≡ suc p → follows f x link ≡ true → f x ≤ f p
  follows_least x link p e h =
      let back : link - 1 ≡ p = omega arith in
      leb-true (f x) (f p) (rw (ne_eqb link 0 (λ z. omega arith), back) at h)

  falls_follows : (a : List ℕ) (x : ℕ) (b : List ℕ) → falls (map f (a ++ (x ∷ b))) ≡ true → follows f x (head_link (reversed a)) ≡ true
  falls_follows [] x b e = refl
  falls_follows (c ∷ a) x b e = follows_from x (head_link (reversed (c ∷ a))) (last_cell c a) (head_last c a) (falls_step c a x b e)

  follows_falls : (l : List ℕ) → ((a : List ℕ) (x : ℕ) (b : List ℕ) → l ≡ a ++ (x ∷ b) → follows f x (head_link (reversed a)) ≡ true)
      → falls (map f l) ≡ true
  follows_falls [] h = refl
  follows_falls (c ∷ l) h =
      step_falls c l
      (λ a x b e.
      follows_least x (head_link (reversed (c ∷ a))) (last_cell c a) (head_last c a) (h (c ∷ a) x b (ap (λ (r : List ℕ). c ∷ r) e)))

  module _ {n m : ℕ} {s : List ℕ} {ls : List (List ℕ)} (w : Linked n m s ls) (j : ℕ) where
    previous_is : (a : List ℕ) (x : ℕ) (b : List ℕ) → get_or ls j [] ≡ a ++ (x ∷ b) → get_or s (n + m + x) 0 ≡ head_link (reversed a)
    previous_is a x b e =
        let there = counted_below x ls j (rw e (count_mid x a b)) in
        sym (get_or-drop (n + m) s x 0)
        ∙ chain_after (leads (drop (n + m) s)) (n + j) x (reversed b) (reversed a)
        (rw (reversed-at ls j ∙ ap reversed e ∙ reversed-put a x b) at (w.back.chains j (omega (arith, length-map ls reversed))))

    pub list_follows : falls (map f (get_or ls j [])) ≡ true → (x : ℕ) → 0 < count x (get_or ls j []) → follows f x (get_or s (n + m + x) 0) ≡ true
    list_follows e x h =
        let r = split_counted x (get_or ls j []) h in
        rw (previous_is r.0 x r.1 r.2) (falls_follows r.0 x r.1 (rw r.2 at e))

    pub list-falls : ((x : ℕ) → 0 < count x (get_or ls j []) → follows f x (get_or s (n + m + x) 0) ≡ true) → falls (map f (get_or ls j [])) ≡ true
    list-falls h =
        follows_falls (get_or ls j [])
        (λ a x b e. rw (previous_is a x b e) at (h x (rw e (count_mid x a b))))
