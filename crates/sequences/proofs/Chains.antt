-- One chain of links: what it says of its cells, that it is read back as its list, and one id tied in between two parts of its list or untied
-- from there. Both are the same step, seen from its two ends: one cell hands its link to another.
use mathlib.Core.Path.{◌≡◌, refl, sym, ◌∙◌, ap}
use mathlib.Core.Logic.{◌↔◌}
use mathlib.Core.List.{List, [], ◌∷◌, ◌++◌}
use Prim.Native.Nat.{ℕ, zero, suc, ◌-◌, ◌<◌, ◌≤◌}
use native.Mathlib.Omega.{arith}
use native.Mathlib.Decide.{ℕ_discrete}
use borrow.Author.Tests.{eq-eqb, ne_eqb}
use lib.ListN.{length}
use Rattle.sequences.specs.Lists.{count, snoc}
use Rattle.sequences.specs.Links.{Chain, head_link, along, last_cell}
use Rattle.sequences.proofs.Counts.{count-append, count-first, count_mid}

-- the link of one cell is handed to another, and v is in its place; all other links are as they were
pub record Handed (f g : ℕ → ℕ) (from to v : ℕ) : Type 0 where
  pub over : g to ≡ f from
  pub own : g from ≡ v
  pub rest : (x : ℕ) → (x ≡ from → ⊥) → (x ≡ to → ⊥) → g x ≡ f x

-- i's link handed to the cell before i, seen backwards
pub handed-back : {f g : ℕ → ℕ} {i y v : ℕ} → Handed f g i y v → f y ≡ suc i → Handed g f y i (suc i)
handed-back h e = record { over = sym h.over; own = e; rest = λ x p q. sym (h.rest x q p) }

-- ---- members

pub count-last : (c : ℕ) (a : List ℕ) → 0 < count (last_cell c a) (c ∷ a)
count-last c [] = count-first c []
count-last c (x ∷ a) = let r = count-last x a in omega arith

pub last_snoc : (c x : ℕ) (l : List ℕ) → last_cell c (snoc x l) ≡ x
last_snoc c x [] = refl
last_snoc c x (y ∷ l) = last_snoc y x l

pub differ : (x c : ℕ) (l : List ℕ) → ((z : ℕ) → count z (c ∷ l) ≤ 1) → 0 < count x l → x ≡ c → ⊥
differ x c l once h e = let o = rw (eq-eqb c x (sym e)) at (once x) in omega arith

-- ---- what a chain says

pub chain_at : (f : ℕ → ℕ) (c : ℕ) (a b : List ℕ) → Chain f c (a ++ b) → f (last_cell c a) ≡ head_link b
chain_at f c [] [] h = h
chain_at f c [] (x ∷ b) h = h.0
chain_at f c (x ∷ a) b h = chain_at f x a b h.1

-- from the last cell of a part on, the rest of a chain is one
pub chain_rest : (f : ℕ → ℕ) (c : ℕ) (a b : List ℕ) → Chain f c (a ++ b) → Chain f (last_cell c a) b
chain_rest f c [] b h = h
chain_rest f c (x ∷ a) b h = chain_rest f x a b h.1

-- what stands behind i
pub chain_after : (f : ℕ → ℕ) (c i : ℕ) (a b : List ℕ) → Chain f c (a ++ (i ∷ b)) → f i ≡ head_link b
chain_after f c i a b h = chain_at f i [] b (chain_rest f c a (i ∷ b) h).1

-- the first of a chain is on its list
pub chain_first : (f : ℕ → ℕ) (c i : ℕ) (l : List ℕ) → Chain f c l → f c ≡ suc i → 0 < count i l
chain_first f c i [] h e = absurd (omega arith)
chain_first f c i (x ∷ l) h e = rw (eq-eqb x i (omega arith)) (omega arith)

-- the same links, from another cell on
pub chain_frame : (f g : ℕ → ℕ) (c d : ℕ) (l : List ℕ) → g d ≡ f c → ((x : ℕ) → 0 < count x l → g x ≡ f x) → Chain f c l → Chain g d l
chain_frame f g c d [] e same h = e ∙ h
chain_frame f g c d (y ∷ l) e same h =
    (e ∙ h.0, chain_frame f g y y l (same y (count-first y l)) (λ x p. same x (omega arith)) h.1)

-- two halves that lead through one list agree on its cells
pub chain_same : (f g : ℕ → ℕ) (c : ℕ) (l : List ℕ) → Chain f c l → Chain g c l → (x : ℕ) → 0 < count x (c ∷ l) → f x ≡ g x
chain_same f g c [] h k x p =
    elim (ℕ_discrete c x) [
      | yes e ↦ rw (← e) (h ∙ sym k)
      | no n ↦ absurd (omega (arith, rw (ne_eqb c x n) at p))
    ]
chain_same f g c (y ∷ l) h k x p =
    elim (ℕ_discrete c x) [
      | yes e ↦ rw (← e) (h.0 ∙ sym k.0)
      | no n ↦ chain_same f g y l h.1 k.1 x (omega (arith, rw (ne_eqb c x n) at p))
    ]

-- ---- read

pub along-none : (f : ℕ → ℕ) (k : ℕ) → along f k 0 ≡ []
unfolding along
along-none f zero = refl
along-none f (suc k) = refl

pub along-next : (f : ℕ → ℕ) (k link : ℕ) → 0 < k → (link ≡ 0 → ⊥) → along f k link ≡ (link - 1) ∷ along f (k - 1) (f (link - 1))
unfolding along
along-next f zero link h d = absurd (omega arith)
along-next f (suc k) zero h d = absurd (d refl)
along-next f (suc k) (suc x) h d =
    let one_less : (z : ℕ) → suc z - 1 ≡ z = λ z. omega arith in
    rw (one_less x, one_less k)

pub chain_along : (f : ℕ → ℕ) (c k : ℕ) (l : List ℕ) → Chain f c l → length l ≤ k → along f k (f c) ≡ l
unfolding along
chain_along f c zero [] h m = refl
chain_along f c (suc k) [] h m = rw h
chain_along f c zero (x ∷ l) h m = absurd (omega arith)
chain_along f c (suc k) (x ∷ l) h m = rw h.0 (ap (λ (r : List ℕ). x ∷ r) (chain_along f x k l h.1 (omega arith)))

-- a list that is read, and at whose last cell no link leads on, is led through
pub chain_read : (f : ℕ → ℕ) (c k : ℕ) → f (last_cell c (along f k (f c))) ≡ 0 → Chain f c (along f k (f c))
unfolding along
chain_read f c zero e = e
chain_read f c (suc k) e = by_link (f c) refl e (λ x. chain_read f x k)
  where
    by_link : (y : ℕ) → f c ≡ y → f (last_cell c (along f (suc k) y)) ≡ 0
        → ((x : ℕ) → f (last_cell x (along f k (f x))) ≡ 0 → Chain f x (along f k (f x))) → Chain f c (along f (suc k) y)
    by_link zero q e r = q
    by_link (suc x) q e r = (q, r x e)

-- ---- tied in, and untied: the cell before the place hands its link to i and leads to i

module _ (f g : ℕ → ℕ) (i : ℕ) (b : List ℕ) where
  pub chain_tie : (c : ℕ) (a : List ℕ) → ((z : ℕ) → count z (c ∷ (a ++ (i ∷ b))) ≤ 1) → Handed f g (last_cell c a) i (suc i)
      → Chain f c (a ++ b) ↔ Chain g c (a ++ (i ∷ b))
  chain_tie c [] once t =
      let same : (x : ℕ) → 0 < count x b → g x ≡ f x =
      λ x p. t.rest x (differ x c (i ∷ b) once (omega arith)) (differ x i b (λ z. let o = once z in omega arith) p) in (
        λ h. (t.own, chain_frame f g c i b t.over same h),
        λ h. chain_frame g f i c b (sym t.over) (λ x p. sym (same x p)) h.1,
      )
  chain_tie c (x ∷ a) once t =
      let l = x ∷ (a ++ (i ∷ b)) in
      let there : 0 < count (last_cell x a) l = omega (arith, count-last x a, count-append (last_cell x a) a (i ∷ b)) in
      let e = t.rest c (λ e. differ (last_cell x a) c l once there (sym e)) (λ e. differ i c l once (omega (arith, count_mid i a b)) (sym e)) in
      let r = chain_tie x a (λ z. let q = once z in omega arith) t in
      (λ h. (e ∙ h.0, r.0 h.1), λ h. (sym e ∙ h.0, r.1 h.1))
