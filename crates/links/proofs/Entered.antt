-- An id put on a list behind a cell that k ids lead up to stands at place k. The last link tells the cell at the end; and where the first and
-- the last link differ, the list has two.
use mathlib.Core.Path.{◌≡◌, refl, sym, ◌∙◌, ap}
use mathlib.Core.Bool.{not}
use mathlib.Core.List.{List, [], ◌∷◌}
use Prim.Native.Nat.{ℕ, suc, ◌+◌, ◌<◌, ◌≤◌}
use native.Mathlib.Decide.{ℕ_discrete}
use native.Mathlib.Numerals.{add-one}
use native.Mathlib.Omega.{arith}
use borrow.Author.Tests.{eq-eqb, ne_eqb, le-leb}
use lib.Dec.{eqb, leb}
use lib.ListN.{length, get_or, take, drop, length-map, take-append-drop}
use lib.Seq.{get_or-drop, take-length, drop-length}
use Rattle.sequences.specs.Lists.{alter, insert_at, snoc, count, count_all, reversed}
use Rattle.sequences.specs.Links.{last_cell, Once, Linked, Orderly, leads, lists_in, head_link}
use Rattle.sequences.proofs.Counts.{count_insert, count-one, count_other}
use Rattle.sequences.proofs.Members.{count_all-put}
use Rattle.sequences.proofs.Places.{length-alter, alter-at, alter_other, alter_alike, insert_at_split}
use Rattle.sequences.proofs.Reversed.{reversed_twice, reversed-at}
use Rattle.sequences.proofs.Chains.{chain_at, count-last, differ}
use Rattle.sequences.proofs.Halves.{Between, between_reversed, once-reversed, cell_differs, cell-within}
use Rattle.sequences.proofs.Linked.{linked_tie}
use Rattle.links.specs.Cells.{tied, cell_of}
use Rattle.links.specs.Walks.{list_in, Behind, Enters, Underway}
use Rattle.links.proofs.Stores.{both_handed}
use Rattle.links.proofs.Neighbours.{last_link}
use Rattle.links.proofs.Ways.{walk_within, walk_link}

module _ {n m i j : ℕ} {s : List ℕ} {k y : ℕ} (w : Underway n m j s k y) (e : Enters n m i j (lists_in n m s)) where
  abbrev ls : List (List ℕ)
  ls = lists_in n m s

  abbrev more : List (List ℕ)
  more = alter j (insert_at k i) ls

  abbrev front : List ℕ
  front = take k (get_or ls j [])

  abbrev rear : List ℕ
  rear = drop k (get_or ls j [])

  there : j < length ls
  there = omega (arith, e.list, w.orderly.many)

  counts : (x : ℕ) → count_all x more ≡ count x (i ∷ []) + count_all x ls
  counts x = count_all-put i (insert_at k i) (λ x l. count_insert x k i l) x j ls there

  put : Between ls j front i rear more
  put =
      record {
        within = there;
        size = length-alter j (insert_at k i) ls;
        parts = sym (take-append-drop k (get_or ls j []));
        put = alter-at (insert_at k i) j ls [] there ∙ insert_at_split k i (get_or ls j []) w.behind.within;
        others = λ h d. alter_other (insert_at k i) j ls h [] d;
        counts = counts;
      }

  once-put : Once n more
  once-put =
      record {
        once = λ x.
            elim (ℕ_discrete x i) [
              | yes s ↦ rw s (omega (arith, counts i, count-one i, e.off))
              | no d ↦ omega (arith, counts x, count_other x i d, w.orderly.apart.once x)
            ];
        known = λ x h. omega (arith, counts x, count_other x i (λ s. omega (arith, e.id)), w.orderly.apart.known x h);
      }

  -- where y led, i leads now: the cell behind it
  behind_is : cell_of (n + j) (get_or s y 0) ≡ last_cell (n + j) (reversed rear)
  behind_is = ap (cell_of (n + j)) (walk_link w ∙ ap head_link (sym (reversed_twice rear))) ∙ sym (last_link (n + j) (reversed rear))

  pub behind-within : cell_of (n + j) (get_or s y 0) < n + m
  behind-within =
      rw behind_is (omega (arith, cell-within (once-reversed once-put) (between_reversed put), length-map ls reversed, w.orderly.many))

  pub entered : {z : ℕ} {t u : List ℕ} → z ≡ cell_of (n + j) (get_or s y 0) → t ≡ tied 0 y i s → u ≡ tied (n + m) z i t → Linked n m u more
  entered {z} {t} {u} p q r =
      let here : i < n + m = omega (arith, e.id) in
      let h =
      both_handed (n + m) y i z i (i + 1) s w.orderly.size (walk_within w) here (rw p behind-within) here
      (λ c. cell_differs once-put put (sym w.behind.cell ∙ c))
      (λ c. cell_differs (once-reversed once-put) (between_reversed put) (sym behind_is ∙ sym p ∙ c)) q r in
      linked_tie once-put put h.0 w.orderly (rw (add-one i, w.behind.cell) at h.1) (rw (add-one i, p, behind_is) at h.2)

-- ---- at the end

module _ {n m j : ℕ} {s : List ℕ} (v : Orderly n m s) (h : j < m) where
  abbrev l : List ℕ
  l = list_in n m j s

  pub last_is : get_or s (n + m + (n + j)) 0 ≡ head_link (reversed l)
  last_is =
      sym (get_or-drop (n + m) s (n + j) 0)
      ∙ chain_at (leads (drop (n + m) s)) (n + j) [] (reversed l)
      (rw (reversed-at (lists_in n m s) j) at (v.back.chains j (omega (arith, v.many, length-map (lists_in n m s) reversed))))

  pub tail_cell : Behind n j l (length l) (cell_of (n + j) (get_or s (n + m + (n + j)) 0))
  tail_cell =
      record {
        within = omega arith;
        cell = ap (cell_of (n + j)) last_is ∙ sym (last_link (n + j) l) ∙ ap (last_cell (n + j)) (sym (take-length l));
      }

pub insert_last : (i j : ℕ) (ls : List (List ℕ)) → alter j (insert_at (length (get_or ls j [])) i) ls ≡ alter j (snoc i) ls
insert_last i j ls =
    let l = get_or ls j [] in
    alter_alike (insert_at (length l) i) (snoc i) [] ls j (insert_at_split (length l) i l (omega arith) ∙ rw (take-length l, drop-length l))

-- first and last differ where there are two
ends_differ : (l : List ℕ) → ((z : ℕ) → count z l ≤ 1) → not (eqb (head_link l) (head_link (reversed l))) ≡ leb 2 (length l)
ends_differ [] once = refl
ends_differ (x ∷ []) once = rw (eq-eqb (suc x) (suc x) refl)
ends_differ (x ∷ (y ∷ l)) once =
    rw (
      ne_eqb (suc x) (head_link (reversed (x ∷ (y ∷ l))))
          (λ e. differ (last_cell y l) x (y ∷ l) once (count-last y l) (last_link 0 (x ∷ (y ∷ l)) ∙ ap (cell_of 0) (sym e))),
      le-leb 2 (length (x ∷ (y ∷ l))) (omega arith),
    )

pub shared_by : (l : List ℕ) → ((z : ℕ) → count z l ≤ 1) → {first last : ℕ} → first ≡ head_link l → last ≡ head_link (reversed l)
    → not (eqb first last) ≡ leb 2 (length l)
shared_by l once p q = rw (p, q) (ends_differ l once)
