-- Links of lists: they are read back as these lists, and no other links are links of them; and one change of the lists that both halves follow.
-- `seen` and `orderly-of` turn the one fact that a contract tells into what the lists are now and that the links are orderly still.
use mathlib.Core.Path.{◌≡◌, sym, ◌∙◌, ap}
use mathlib.Core.List.{List, [], ◌++◌, map}
use Prim.Native.Nat.{ℕ, suc, ◌+◌, ◌-◌, ◌<◌}
use native.Mathlib.Decide.{dec_lt}
use native.Mathlib.Omega.{arith}
use lib.ListN.{length, get_or, take, drop, length-drop, length-map, take-append-drop, get_or-map}
use lib.Seq.{length-take-le, get_or-drop, ext_get_or}
use Rattle.sequences.specs.Lists.{count_all, reversed}
use Rattle.sequences.specs.Links.{last_cell, along, lists, lists_in, leads, Half, Once, Linked, Orderly}
use Rattle.sequences.proofs.Counts.{count-first, count_all-place}
use Rattle.sequences.proofs.Parts.{counted_below}
use Rattle.sequences.proofs.Chains.{Handed, along-none, chain_along, chain_same}
use Rattle.sequences.proofs.Halves.{Between, half_tie, half_untie, fewer, between_reversed, once-reversed, list_short}

-- ---- read back

length-lists : (n : ℕ) (h : List ℕ) → length (lists n h) ≡ length h - n
unfolding lists
length-lists n h = length-map (drop n h) (along (leads h) n) ∙ length-drop n h

pub many-lists : (n m : ℕ) (s : List ℕ) → length s ≡ n + m + (n + m) → length (lists_in n m s) ≡ m
many-lists n m s size = length-lists n (take (n + m) s) ∙ omega (arith, length-take-le (n + m) s (omega arith))

-- along a link of 0 nothing is read, so the default is read, too
pub lists_at : (n : ℕ) (h : List ℕ) (j : ℕ) → get_or (lists n h) j [] ≡ along (leads h) n (get_or h (n + j) 0)
unfolding lists
lists_at n h j =
    ap (get_or (map (along (leads h) n) (drop n h)) j) (sym (along-none (leads h) n))
    ∙ get_or-map (along (leads h) n) (drop n h) j 0
    ∙ ap (along (leads h) n) (get_or-drop n h j 0)

-- a half of lists is read as these lists
half_seen : {n : ℕ} (h : List ℕ) {ls : List (List ℕ)} → length h ≡ n + length ls → Once n ls → Half n (leads h) ls → lists n h ≡ ls
half_seen {n} h {ls} size o w =
    ext_get_or [] (lists n h) ls (length-lists n h ∙ omega arith)
    (λ j k.
    lists_at n h j ∙ chain_along (leads h) (n + j) n (get_or ls j []) (w.chains j (omega (arith, length-lists n h))) (list_short o j))

pub seen : {n m : ℕ} {s : List ℕ} {ls : List (List ℕ)} → Linked n m s ls → lists_in n m s ≡ ls
seen {n} {m} {s} {ls} w =
    half_seen (take (n + m) s) (length-take-le (n + m) s (omega (arith, w.size)) ∙ omega (arith, w.many)) w.apart w.ahead

pub orderly-of : {n m : ℕ} {s : List ℕ} {ls : List (List ℕ)} → Linked n m s ls → Orderly n m s
orderly-of w = rw (seen w) w

-- ---- the lists say what the links are

half_same : (n : ℕ) (g h : List ℕ) (ls : List (List ℕ)) → length g ≡ n + length ls → length h ≡ n + length ls
    → Half n (leads g) ls → Half n (leads h) ls → g ≡ h
half_same n g h ls c d p q = ext_get_or 0 g h (c ∙ sym d) (λ x k. each x (omega arith))
  where
    each : (x : ℕ) → x < n + length ls → leads g x ≡ leads h x
    each x k =
        elim (dec_lt x n) [
          | no l ↦
              let j = x - n in
              let e : n + j ≡ x = omega arith in
              let l = get_or ls j [] in
              rw (← e)
              (chain_same (leads g) (leads h) (n + j) l (p.chains j (omega arith)) (q.chains j (omega arith)) (n + j) (count-first (n + j) l))
          | yes l ↦
              elim (dec_lt 0 (count_all x ls)) [
                | no z ↦ p.zeros x l (omega arith) ∙ sym (q.zeros x l (omega arith))
                | yes z ↦
                    let r = count_all-place x ls z in
                    let j = r.0 in
                    let b : j < length ls = counted_below x ls j r.1 in
                    chain_same (leads g) (leads h) (n + j) (get_or ls j []) (p.chains j b) (q.chains j b) x (omega (arith, r.1))
              ]
        ]

pub determined : {n m : ℕ} {s t : List ℕ} {ls : List (List ℕ)} → Linked n m s ls → Linked n m t ls → s ≡ t
determined {n} {m} {s} {t} {ls} v w =
    sym (take-append-drop (n + m) s)
    ∙ ap (λ (h : List ℕ). h ++ drop (n + m) s)
    (half_same n (take (n + m) s) (take (n + m) t) ls (front s v.size) (front t w.size) v.ahead w.ahead)
    ∙ ap (λ (h : List ℕ). take (n + m) t ++ h)
    (half_same n (drop (n + m) s) (drop (n + m) t) (map reversed ls) (rear s v.size) (rear t w.size) v.back w.back)
    ∙ take-append-drop (n + m) t
  where
    front : (s : List ℕ) → length s ≡ n + m + (n + m) → length (take (n + m) s) ≡ n + length ls
    front s e = length-take-le (n + m) s (omega arith) ∙ omega (arith, v.many)

    rear : (s : List ℕ) → length s ≡ n + m + (n + m) → length (drop (n + m) s) ≡ n + length (map reversed ls)
    rear s e = length-drop (n + m) s ∙ omega (arith, v.many, length-map ls reversed)

-- ---- both halves at once

module _ {n m : ℕ} {s t : List ℕ} {ls more : List (List ℕ)} {j i : ℕ} {a b : List ℕ}
    (o : Once n more) (w : Between ls j a i b more) (same : length t ≡ length s) where
  pub linked_tie : Linked n m s ls → Handed (leads (take (n + m) s)) (leads (take (n + m) t)) (last_cell (n + j) a) i (suc i)
      → Handed (leads (drop (n + m) s)) (leads (drop (n + m) t)) (last_cell (n + j) (reversed b)) i (suc i) → Linked n m t more
  linked_tie v p q =
      record {
        size = same ∙ v.size;
        many = w.size ∙ v.many;
        apart = o;
        ahead = half_tie o w p v.ahead;
        back = half_tie (once-reversed o) (between_reversed w) q v.back;
      }

  pub linked_untie : Linked n m s more → Handed (leads (take (n + m) s)) (leads (take (n + m) t)) i (last_cell (n + j) a) 0
      → Handed (leads (drop (n + m) s)) (leads (drop (n + m) t)) i (last_cell (n + j) (reversed b)) 0 → Linked n m t ls
  linked_untie v p q =
      record {
        size = same ∙ v.size;
        many = sym w.size ∙ v.many;
        apart = fewer o w;
        ahead = half_untie o w p v.ahead;
        back = half_untie (once-reversed o) (between_reversed w) q v.back;
      }
