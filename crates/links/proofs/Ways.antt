-- A walk along one list: the cell that k ids lead up to, what its link says, and the next cell. The walk carries with it that the links are
-- orderly, so that every law asks for the walk only. Then a search on the way, and a row filled on it.
use mathlib.Core.Path.{◌≡◌, refl, sym, ◌∙◌, ap}
use mathlib.Core.Bool.{Bool, true, false}
use mathlib.Core.List.{List, [], ◌∷◌, ◌++◌}
use Prim.Native.Nat.{ℕ, zero, suc, ◌+◌, ◌-◌, ◌<◌}
use native.Mathlib.Decide.{dec_lt}
use native.Mathlib.Numerals.{add-one}
use native.Mathlib.Omega.{arith}
use lib.ListN.{length, get_or, set, take, drop, length-set, take-append-drop, drop_of_length-le}
use lib.Seq.{get_or-take, drop-cons, take-suc, take-suc-set, take_all, drop-drop, drop-set-lt}
use Rattle.sequences.specs.Links.{Orderly, leads, lists_in, head_link, last_cell}
use Rattle.sequences.proofs.Counts.{count-there}
use Rattle.sequences.proofs.Searches.{first_step, first_hit, first-end}
use Rattle.sequences.proofs.Chains.{chain_at}
use Rattle.sequences.proofs.Halves.{member_inside, last_inside, list_short}
use Rattle.links.specs.Walks.{list_in, Underway, Ranked, Ranking, ReadOut, Reading}

last_suc : (c : ℕ) (l : List ℕ) (h : ℕ) → h < length l → last_cell c (take (suc h) l) ≡ get_or l h 0
last_suc c [] h p = absurd (omega arith)
last_suc c (x ∷ l) zero p = refl
last_suc c (x ∷ l) (suc h) p = last_suc x l h (omega arith)

pub set_out : {n m j : ℕ} {s : List ℕ} → Orderly n m s → j < m → Underway n m j s 0 (n + j)
set_out v h = record { orderly = v; list = h; behind = record { within = omega arith; cell = refl } }

module _ {n m j : ℕ} {s : List ℕ} {k y : ℕ} (w : Underway n m j s k y) where
  abbrev l : List ℕ
  l = list_in n m j s

  there : j < length (lists_in n m s)
  there = omega (arith, w.list, w.orderly.many)

  pub walk_within : y < n + m
  walk_within =
      rw w.behind.cell
      (omega (arith, last_inside w.orderly.apart j (take k l) (drop k l) there (sym (take-append-drop k l)), w.orderly.many))

  pub walk_reads : y < length s
  walk_reads = omega (arith, walk_within, w.orderly.size)

  pub walk_link : get_or s y 0 ≡ head_link (drop k l)
  walk_link =
      sym (get_or-take (n + m) s y 0 walk_within)
      ∙ ap (leads (take (n + m) s)) w.behind.cell
      ∙ chain_at (leads (take (n + m) s)) (n + j) (take k l) (drop k l) (rw (take-append-drop k l) (w.orderly.ahead.chains j there))

  -- not at the end, the link leads to the next
  pub walk-next : k < length l → get_or s y 0 ≡ suc (get_or l k 0)
  walk-next h = walk_link ∙ ap head_link (drop-cons l k 0 h)

  pub walk_on : k < length l → Underway n m j s (k + 1) (get_or s y 0 - 1)
  walk_on h =
      record {
        orderly = w.orderly;
        list = w.list;
        behind = record { within = omega arith; cell = rw (walk-next h, add-one k) (omega (arith, last_suc (n + j) l k h)) };
      }

  pub walk_done : get_or s y 0 ≡ 0 → k ≡ length l
  walk_done e =
      elim (dec_lt k (length l)) [
        | yes h ↦ absurd (omega (arith, walk-next h))
        | no h ↦ omega (arith, w.behind.within)
      ]

  module _ (more : get_or s y 0 ≡ 0 → ⊥) where
    pub walk_more : k < length l
    walk_more =
        elim (dec_lt k (length l)) [
          | yes h ↦ h
          | no h ↦ absurd (more (walk_link ∙ ap head_link (drop_of_length-le l {i = k} (omega arith))))
        ]

    pub walk_id : get_or l k 0 ≡ get_or s y 0 - 1
    walk_id = omega (arith, walk-next walk_more)

    pub walk_known : get_or s y 0 - 1 < n
    walk_known = rw (← walk_id) (member_inside w.orderly.apart j (get_or l k 0) (count-there l k walk_more))

    pub walk_count : k < n
    walk_count = omega (arith, walk_more, list_short w.orderly.apart j)

    pub walk_closer : length l - (k + 1) < length l - k
    walk_closer = omega (arith, walk_more)

-- ---- a search

module _ {n m j : ℕ} {s : List ℕ} {passes : ℕ → Bool} {k y : ℕ} (r : Ranking n m j s passes k y) where
  pub rank-on : (more : get_or s y 0 ≡ 0 → ⊥) → passes (get_or s y 0 - 1) ≡ false → Ranking n m j s passes (k + 1) (get_or s y 0 - 1)
  rank-on more e =
      record {
        way = walk_on r.way (walk_more r.way more);
        onward = r.onward ∙ first_step passes 0 (list_in n m j s) k (walk_more r.way more) (ap passes (walk_id r.way more) ∙ e);
      }

  pub rank_hit : (more : get_or s y 0 ≡ 0 → ⊥) → passes (get_or s y 0 - 1) ≡ true → Ranked n j (list_in n m j s) passes k y
  rank_hit more e =
      record {
        first = sym (r.onward ∙ first_hit passes 0 (list_in n m j s) k (walk_more r.way more) (ap passes (walk_id r.way more) ∙ e));
        behind = r.way.behind;
      }

  pub rank-end : get_or s y 0 ≡ 0 → Ranked n j (list_in n m j s) passes k y
  rank-end e =
      record {
        first = sym (r.onward ∙ first-end passes (list_in n m j s) k (omega (arith, walk_done r.way e)));
        behind = r.way.behind;
      }

-- ---- a row

module _ {n m j : ℕ} {s : List ℕ} {k y : ℕ} {old row : List ℕ} (r : Reading n m j s k y old row) where
  pub read_on : (get_or s y 0 ≡ 0 → ⊥) → Reading n m j s (k + 1) (get_or s y 0 - 1) old (set row k (get_or s y 0 - 1))
  read_on more =
      let x = get_or s y 0 - 1 in
      let h = walk_more r.way more in
      record {
        way = walk_on r.way h;
        ids =
            rw (add-one k)
            (take-suc-set row k x (omega (arith, walk_count r.way more, r.size))
            ∙ ap (λ (t : List ℕ). t ++ (x ∷ [])) r.ids
            ∙ ap (λ (x : ℕ). take k (list_in n m j s) ++ (x ∷ [])) (sym (walk_id r.way more))
            ∙ sym (take-suc (list_in n m j s) k 0 h));
        rest = drop-set-lt (k + 1) row k x (omega arith) ∙ sym (drop-drop 1 k row) ∙ ap (drop 1) r.rest ∙ drop-drop 1 k old;
        size = length-set row k x ∙ r.size;
      }

  pub read_end : get_or s y 0 ≡ 0 → ReadOut (list_in n m j s) k old row
  read_end e =
      let h = walk_done r.way e in
      record { many = h; ids = sym (take-append-drop k row) ∙ rw (r.ids ∙ take_all k (list_in n m j s) (omega arith), r.rest) }
