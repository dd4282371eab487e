-- The cells before and behind an id, told by its own links or, where it is first or last, searched for among the lists; and the id taken out
-- between them. The half back is the half ahead of the lists read from behind, so each law is shown for one half and used for both.
use mathlib.Core.Path.{◌≡◌, refl, sym, ◌∙◌, ap}
use mathlib.Core.Bool.{Bool, false}
use mathlib.Core.List.{List, [], ◌∷◌, ◌++◌, map}
use Prim.Native.Nat.{ℕ, zero, suc, ◌+◌, ◌-◌, ◌<◌, ◌≤◌}
use native.Mathlib.Nat.{zero-add}
use native.Mathlib.Decide.{ℕ_discrete, dec_lt}
use native.Mathlib.Numerals.{add-one}
use native.Mathlib.Omega.{arith}
use borrow.Author.Tests.{eq-eqb, ne_eqb}
use lib.Dec.{eqb}
use lib.ListN.{length, get_or, take, drop, length-drop, length-map, get_or-map}
use lib.Seq.{length-take-le, get_or-take, get_or-drop}
use Rattle.sequences.specs.Lists.{count, count_all, first_at, without, snoc, reversed}
use Rattle.sequences.specs.Links.{last_cell, head_link, leads, Chain, Half, Once, Linked}
use Rattle.sequences.proofs.Counts.{count-append, count-first, count-one, count_other, count_mid, count_two, count_all-at, count_all-place, count_all_gone, count_all-kept}
use Rattle.sequences.proofs.Parts.{counted_below}
use Rattle.sequences.proofs.Removal.{without-none, map-without-none, split_counted, without-put}
use Rattle.sequences.proofs.Reversed.{reversed-put, reversed-at, each-reversed_twice, count_all-reversed}
use Rattle.sequences.proofs.Searches.{first-is, first-none}
use Rattle.sequences.proofs.Chains.{chain_at, chain_after, chain_first}
use Rattle.sequences.proofs.Halves.{Between, between_reversed, once-reversed, member_inside, cell_differs, cell-within}
use Rattle.sequences.proofs.Linked.{linked_untie}
use Rattle.links.specs.Cells.{untied, cell_of, first_with, before, Beside}
use Rattle.links.proofs.Stores.{both_handed}

-- ---- links to cells

pub cell-there : (c x : ℕ) → (x ≡ 0 → ⊥) → x - 1 ≡ cell_of c x
cell-there c zero n = absurd (n refl)
cell-there c (suc p) n = omega arith

pub cell-none : (c x : ℕ) → x ≡ 0 → c ≡ cell_of c x
cell-none c zero e = refl
cell-none c (suc p) e = absurd (omega arith)

-- the last cell of a part is where its link from behind leads
pub last_link : (c : ℕ) (a : List ℕ) → last_cell c a ≡ cell_of c (head_link (reversed a))
last_link c [] = refl
last_link c (x ∷ a) = last_link x a ∙ by_cases (reversed a)
  where
    by_cases : (l : List ℕ) → cell_of x (head_link l) ≡ cell_of c (head_link (snoc x l))
    by_cases [] = refl
    by_cases (y ∷ l) = refl

-- ---- a link leads to an id

head_most : (n : ℕ) (l : List ℕ) → ((x : ℕ) → 0 < count x l → x < n) → head_link l ≤ n
head_most n [] known = omega arith
head_most n (x ∷ l) known = known x (count-first x l)

pub leads_most : {n : ℕ} {ls : List (List ℕ)} → Once n ls → (f : ℕ → ℕ) (j : ℕ) → Chain f (n + j) (get_or ls j []) → (x : ℕ)
    → 0 < count x (get_or ls j []) → f x ≤ n
leads_most {n} {ls} once f j chain x on =
    let r = split_counted x (get_or ls j []) on in
    let known : (y : ℕ) → 0 < count y r.1 → y < n =
    λ y q. member_inside once j y (omega (arith, ap (count y) r.2, count-append y r.0 (x ∷ r.1))) in
    rw (chain_after f (n + j) x r.0 r.1 (rw r.2 at chain)) (head_most n r.1 known)

half_most : {n : ℕ} {f : ℕ → ℕ} {ls : List (List ℕ)} → Once n ls → Half n f ls → (x : ℕ) → x < n → f x ≤ n
half_most {n} {f} {ls} once half x within =
    elim (dec_lt 0 (count_all x ls)) [
      | yes h ↦ let p = count_all-place x ls h in leads_most once f p.0 (half.chains p.0 (counted_below x ls p.0 p.1)) x p.1
      | no h ↦ omega (arith, half.zeros x within (omega arith))
    ]

-- ---- two halves that face each other

record Facing (n : ℕ) (f g : ℕ → ℕ) (ls : List (List ℕ)) : Type 0 where
  apart : Once n ls
  ahead : Half n f ls
  back : Half n g (map reversed ls)

turned : {n : ℕ} {f g : ℕ → ℕ} {ls : List (List ℕ)} → Facing n f g ls → Facing n g f (map reversed ls)
turned {n} {f} {g} {ls} w = record { apart = once-reversed w.apart; ahead = w.back; back = rw (each-reversed_twice ls) w.ahead }

facing_of : {n m : ℕ} {s : List ℕ} {ls : List (List ℕ)} → Linked n m s ls → Facing n (leads (take (n + m) s)) (leads (drop (n + m) s)) ls
facing_of v = record { apart = v.apart; ahead = v.ahead; back = v.back }

module _ {n : ℕ} {f g : ℕ → ℕ} {ls : List (List ℕ)} (w : Facing n f g ls) (i : ℕ) where
  -- the link back leads to the cell before i
  beside : (j : ℕ) (a b : List ℕ) → j < length ls → get_or ls j [] ≡ a ++ (i ∷ b) → cell_of (n + j) (g i) ≡ last_cell (n + j) a
  beside j a b h e =
      ap (cell_of (n + j))
      (chain_after g (n + j) i (reversed b) (reversed a)
      (rw (reversed-at ls j ∙ ap reversed e ∙ reversed-put a i b) at (w.back.chains j (omega (arith, length-map ls reversed)))))
      ∙ sym (last_link (n + j) a)

  -- a search among the firsts
  module _ (firsts : List ℕ) (size : length firsts ≡ length ls) (each : (k : ℕ) → k < length ls → get_or firsts k 0 ≡ f (n + k)) where
    abbrev leading : ℕ → Bool
    leading y = eqb y (suc i)

    -- only i's own list can start with i
    not_first : (k : ℕ) → k < length ls → count i (get_or ls k []) ≡ 0 → leading (get_or firsts k 0) ≡ false
    not_first k h z =
        ne_eqb (get_or firsts k 0) (suc i) (λ e. omega (arith, chain_first f (n + k) i (get_or ls k []) (w.ahead.chains k h) (sym (each k h) ∙ e)))

    found : (j : ℕ) → j < length ls → f (n + j) ≡ suc i → first_at leading firsts ≡ j
    found j h e =
        let there = chain_first f (n + j) i (get_or ls j []) (w.ahead.chains j h) e in
        first-is leading 0 firsts j (omega arith) (eq-eqb (get_or firsts j 0) (suc i) (each j h ∙ e))
        (λ k l. not_first k (omega arith) (omega (arith, w.apart.once i, count_two i j k ls (λ s. omega arith))))

    unfound : count_all i ls ≡ 0 → first_at leading firsts ≡ length ls
    unfound z = first-none leading 0 firsts (λ k l. not_first k (omega arith) (omega (arith, count_all-at i ls k))) ∙ size

    -- i is first where no link leads back from it
    found_first : (j : ℕ) (a b : List ℕ) → j < length ls → get_or ls j [] ≡ a ++ (i ∷ b) → g i ≡ 0 → first_at leading firsts ≡ j
    found_first j a b h e z =
        let c : n + j ≡ last_cell (n + j) a = cell-none (n + j) (g i) z ∙ beside j a b h e in
        found j h (ap f c ∙ chain_at f (n + j) a (i ∷ b) (rw e at (w.ahead.chains j h)))

    before_on : (j : ℕ) (a b : List ℕ) → j < length ls → get_or ls j [] ≡ a ++ (i ∷ b)
        → cell_of (n + first_at leading firsts) (g i) ≡ last_cell (n + j) a
    before_on j a b h e = choice (g i) (λ z. ap (λ (k : ℕ). n + k) (found_first j a b h e z)) ∙ beside j a b h e
      where
        choice : (link : ℕ) → (link ≡ 0 → n + first_at leading firsts ≡ n + j) → cell_of (n + first_at leading firsts) link ≡ cell_of (n + j) link
        choice zero c = c refl
        choice (suc p) c = refl

    before-off : i < n → count_all i ls ≡ 0 → cell_of (n + first_at leading firsts) (g i) ≡ n + length ls
    before-off h z = rw (w.back.zeros i h (count_all-reversed i ls ∙ z)) (ap (λ (k : ℕ). n + k) (unfound z))

-- ---- the same in bytes

module _ {n m : ℕ} (s : List ℕ) {f g : ℕ → ℕ} {ls : List (List ℕ)} (w : Facing n f g ls) (many : length ls ≡ m) (i here : ℕ)
    (fits : here + n + m ≤ length s) (each : (k : ℕ) → k < m → get_or s (here + n + k) 0 ≡ f (n + k)) where
  abbrev firsts : List ℕ
  firsts = take m (drop (here + n) s)

  size : length firsts ≡ length ls
  size = length-take-le m (drop (here + n) s) (omega (arith, length-drop (here + n) s)) ∙ sym many

  at : (k : ℕ) → k < length ls → get_or firsts k 0 ≡ f (n + k)
  at k h =
      let b : k < m = omega arith in
      get_or-take m (drop (here + n) s) k 0 b ∙ get_or-drop (here + n) s k 0 ∙ each k b

  with_first : (j : ℕ) (a b : List ℕ) → j < length ls → get_or ls j [] ≡ a ++ (i ∷ b) → g i ≡ 0 → first_with m (here + n) (i + 1) s ≡ j
  with_first j a b h e z = rw (add-one i) (found_first w i firsts size at j a b h e z)

  with_none : count_all i ls ≡ 0 → first_with m (here + n) (i + 1) s ≡ length ls
  with_none z = rw (add-one i) (unfound w i firsts size at z)

  module _ (there : ℕ) (other : get_or s (there + i) 0 ≡ g i) where
    before_at : (j : ℕ) (a b : List ℕ) → j < length ls → get_or ls j [] ≡ a ++ (i ∷ b) → before n m here there i s ≡ last_cell (n + j) a
    before_at j a b h e = rw (other, add-one i) (before_on w i firsts size at j a b h e)

    before-none : i < n → count_all i ls ≡ 0 → before n m here there i s ≡ n + m
    before-none h z = rw (other, add-one i) (before-off w i firsts size at h z ∙ ap (λ (k : ℕ). n + k) many)

-- ---- of orderly links

module _ {n m : ℕ} {s : List ℕ} {ls : List (List ℕ)} (v : Linked n m s ls) (i : ℕ) where
  back_is : get_or s (n + m + i) 0 ≡ leads (drop (n + m) s) i
  back_is = sym (get_or-drop (n + m) s i 0)

  each-ahead : (k : ℕ) → k < m → get_or s (0 + n + k) 0 ≡ leads (take (n + m) s) (n + k)
  each-ahead k h = rw (zero-add n) (sym (get_or-take (n + m) s (n + k) 0 (omega arith)))

  each_back : (k : ℕ) → k < m → get_or s (n + m + n + k) 0 ≡ leads (drop (n + m) s) (n + k)
  each_back k h = let e : n + m + n + k ≡ n + m + (n + k) = omega arith in rw e (sym (get_or-drop (n + m) s (n + k) 0))

  pub first_unfound : count_all i ls ≡ 0 → first_with m n (i + 1) s ≡ length ls
  first_unfound z = rw (zero-add n) at (with_none s (facing_of v) v.many i 0 (omega (arith, v.size)) each-ahead z)

  module _ (j : ℕ) (on : 0 < count i (get_or ls j [])) where
    there : j < length ls
    there = counted_below i ls j on

    inside : i < n
    inside = member_inside v.apart j i on

    pub id-reads : n + m + i < length s
    id-reads = omega (arith, inside, v.size)

    parts : (a : List ℕ) × (b : List ℕ) × (get_or ls j [] ≡ a ++ (i ∷ b))
    parts = split_counted i (get_or ls j []) on

    ahead_is : get_or s i 0 ≡ leads (take (n + m) s) i
    ahead_is = sym (get_or-take (n + m) s i 0 (omega (arith, inside)))

    from-behind : get_or (map reversed ls) j [] ≡ reversed parts.1 ++ (i ∷ reversed parts.0)
    from-behind = reversed-at ls j ∙ ap reversed parts.2 ∙ reversed-put parts.0 i parts.1

    there-behind : j < length (map reversed ls)
    there-behind = omega (arith, there, length-map ls reversed)

    -- where no link leads back, i is first
    pub first_found : get_or s (n + m + i) 0 ≡ 0 → first_with m n (i + 1) s ≡ j
    first_found z =
        rw (zero-add n)
        at (with_first s (facing_of v) v.many i 0 (omega (arith, v.size)) each-ahead j parts.0 parts.1 there parts.2 (sym back_is ∙ z))

    -- the cells beside i, told by its links, and searched for
    pub told : Beside n i (cell_of (n + j) (get_or s (n + m + i) 0)) (cell_of (n + j) (get_or s i 0)) ls
    told =
        record {
          list = j;
          front = parts.0;
          rear = parts.1;
          parts = parts.2;
          before = ap (cell_of (n + j)) back_is ∙ beside (facing_of v) i j parts.0 parts.1 there parts.2;
          behind =
              ap (cell_of (n + j)) ahead_is
              ∙ beside (turned (facing_of v)) i j (reversed parts.1) (reversed parts.0) there-behind from-behind;
        }

    searched_on : Beside n i (before n m 0 (n + m) i s) (before n m (n + m) 0 i s) ls
    searched_on =
        record {
          list = j;
          front = parts.0;
          rear = parts.1;
          parts = parts.2;
          before =
              before_at s (facing_of v) v.many i 0 (omega (arith, v.size)) each-ahead (n + m) back_is j parts.0 parts.1 there parts.2;
          behind =
              before_at s (turned (facing_of v)) (length-map ls reversed ∙ v.many) i (n + m) (omega (arith, v.size)) each_back 0
              (rw (zero-add i) ahead_is) j (reversed parts.1) (reversed parts.0) there-behind from-behind;
        }

-- ---- taken out

module _ {n m : ℕ} {s : List ℕ} {ls : List (List ℕ)} {i y z : ℕ} (v : Linked n m s ls) (b : Beside n i y z ls) where
  on : 0 < count i (get_or ls b.list [])
  on = rw b.parts (count_mid i b.front b.rear)

  out : Between (map (without i) ls) b.list b.front i b.rear ls
  out =
      let j = b.list in
      let at : (k : ℕ) → get_or (map (without i) ls) k [] ≡ without i (get_or ls k []) = λ k. get_or-map (without i) ls k [] in
      let once : count i (get_or ls j []) ≤ 1 = omega (arith, v.apart.once i, count_all-at i ls j) in
      record {
        within = omega (arith, length-map ls (without i), counted_below i ls j on);
        size = sym (length-map ls (without i));
        parts = at j ∙ ap (without i) b.parts ∙ without-put i b.front b.rear (rw b.parts at once);
        put = b.parts;
        others = λ k d. sym (at k ∙ without-none i (get_or ls k []) (omega (arith, on, v.apart.once i, count_two i j k ls d)));
        counts = λ x.
            elim (ℕ_discrete x i) [
              | yes s ↦ rw s (omega (arith, on, count-one i, count_all_gone i ls, v.apart.once i, count_all-at i ls j))
              | no d ↦ omega (arith, count_other x i d, count_all-kept i x ls (λ s. d (sym s)))
            ];
      }

  pub id-within : i < n
  id-within = member_inside v.apart b.list i on

  pub before-within : y < n + m
  before-within = rw b.before (omega (arith, cell-within v.apart out, out.size, v.many))

  pub behind-within : z < n + m
  behind-within =
      rw b.behind
      (omega (arith, cell-within (once-reversed v.apart) (between_reversed out), length-map (map (without i) ls) reversed, out.size, v.many))

  pub left_by : {t u : List ℕ} → t ≡ untied 0 y i s → u ≡ untied (n + m) z i t → Linked n m u (map (without i) ls)
  left_by p q =
      let k : i < n + m = omega (arith, id-within) in
      let h =
      both_handed (n + m) i y i z 0 s v.size k before-within k behind-within (λ e. cell_differs v.apart out (sym b.before ∙ sym e))
      (λ e. cell_differs (once-reversed v.apart) (between_reversed out) (sym b.behind ∙ sym e)) p q in
      linked_untie v.apart out h.0 v (rw b.before at h.1) (rw b.behind at h.2)

-- ---- whether i stands on a list

module _ {n m : ℕ} {s : List ℕ} {ls : List (List ℕ)} (v : Linked n m s ls) (i : ℕ) (within : i < n) where
  off-none : count_all i ls ≡ 0 → before n m 0 (n + m) i s ≡ n + m
  off-none = before-none s (facing_of v) v.many i 0 (omega (arith, v.size)) (each-ahead v i) (n + m) (back_is v i) within

  pub ahead_most : get_or s i 0 ≤ n
  ahead_most = omega (arith, get_or-take (n + m) s i 0 (omega arith), half_most v.apart v.ahead i within)

  pub back_most : get_or s (n + m + i) 0 ≤ n
  back_most = omega (arith, get_or-drop (n + m) s i 0, half_most (once-reversed v.apart) v.back i within)

  pub searched : before n m 0 (n + m) i s < n + m → Beside n i (before n m 0 (n + m) i s) (before n m (n + m) 0 i s) ls
  searched h =
      elim (dec_lt 0 (count_all i ls)) [
        | yes c ↦ let r = count_all-place i ls c in searched_on v i r.0 r.1
        | no c ↦ absurd (omega (arith, off-none (omega arith)))
      ]

  pub stayed : n + m ≤ before n m 0 (n + m) i s → Linked n m s (map (without i) ls)
  stayed h =
      elim (dec_lt 0 (count_all i ls)) [
        | yes c ↦ let r = count_all-place i ls c in absurd (omega (arith, before-within v (searched_on v i r.0 r.1)))
        | no c ↦ rw (map-without-none i ls (omega arith)) v
      ]
