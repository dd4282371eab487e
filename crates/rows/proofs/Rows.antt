-- What one store, or one part of a row copied within it, does to the list that the row holds; and a row stored among rows. For any room.
use mathlib.Core.Path.{◌≡◌, sym, ◌∙◌, ap}
use mathlib.Core.List.{List, [], ◌∷◌, ◌++◌, append_assoc}
use Prim.Native.Nat.{ℕ, suc, ◌+◌, ◌-◌, ◌≤◌, ◌<◌}
use native.Mathlib.Decide.{ℕ_discrete, dec_lt}
use native.Mathlib.Numerals.{add-one}
use native.Mathlib.Omega.{arith}
use lib.ListN.{length, take, drop, set, get_or, length-set, length-append, length-replicate, length-drop, get_or-replicate, get_or-eq_default}
use lib.Seq.{paste, length_paste_head, take-suc-set, drop-set-lt, drop-drop, drop-cons, set_at, take_at, drop_at, take-take, take-suc, length-take-le}
use Rattle.std.proofs.lemmas.List.{drop-replicate, drop-take}
use lib.Seq.{get_or-set_same, get_or-set_other, get_or-drop}
use Rattle.sequences.specs.Lists.{insert_at, remove_at, snoc, take_each}
use Rattle.sequences.proofs.Bounds.{all_zero-from}
use Rattle.sequences.proofs.Padding.{zeros-all_zero}
use Rattle.sequences.proofs.Places.{insert_at_split, remove_at_split, take_each-at, take_each-set, length-take_each, alter-set}
use Rattle.rows.specs.Row.{Row, Held, Rows, Changed, blanks}

same-blanks : (m n : ℕ) → m ≡ n → blanks m ≡ blanks n
same-blanks m n e = ap blanks e

part_taken : (k m n : ℕ) (l : List ℕ) → k + m ≡ n → drop k (take n l) ≡ take m (drop k l)
part_taken k m n l e = ap (λ (j : ℕ). drop k (take j l)) (sym e) ∙ drop-take k m l

-- a list and blanks behind it are a row that holds the list
pub held : (places n : ℕ) (ids l : List ℕ) → ids ≡ l ++ blanks (places - n) → length l ≡ n → n ≤ places → Held places ids n l
held places n ids l e h k =
    record {
      row =
          record {
            size = ap length e ∙ length-append l (blanks (places - n)) ∙ rw (h, length-replicate) (omega arith);
            room = k;
            clear = ap (drop n) e ∙ drop_at l (blanks (places - n)) n h;
          };
      list = ap (take n) e ∙ take_at l (blanks (places - n)) n h;
    }

-- a row by its places
pub row_from : {places n : ℕ} (ids : List ℕ) → length ids ≡ places → n ≤ places → ((k : ℕ) → n ≤ k → k < places → get_or ids k 0 ≡ 0) → Row places ids n
row_from {places} {n} ids size room zeros =
    let rest : length (drop n ids) ≡ places - n = length-drop n ids ∙ ap (λ (m : ℕ). m - n) size in
    record {
      size = size;
      room = room;
      clear =
          zeros-all_zero (drop n ids) (all_zero-from (drop n ids) (λ k h. get_or-drop n ids k 0 ∙ zeros (n + k) (omega arith) (omega arith)))
          ∙ ap blanks rest;
    }

module _ {places : ℕ} {ids : List ℕ} {n : ℕ} (w : Row places ids n) where
  pub zero_past : (k : ℕ) → n ≤ k → k < places → get_or ids k 0 ≡ 0
  zero_past k h i =
      let at : n + (k - n) ≡ k = omega arith in
      rw (← at, ← get_or-drop n ids (k - n) 0, w.clear) (get_or-replicate (places - n) (k - n) 0 0 (omega arith))

  pub length_held : length (take n ids) ≡ n
  length_held = length-take-le n ids (omega (arith, w.size, w.room))

  clear-one : drop (n + 1) ids ≡ blanks (places - (n + 1))
  clear-one =
      sym (drop-drop 1 n ids)
      ∙ ap (drop 1) w.clear
      ∙ drop-replicate 1 (places - n) 0
      ∙ same-blanks (places - n - 1) (places - (n + 1)) (omega arith)

  -- ---- push: a store behind the last

  pub pushed : (x : ℕ) → n < places → Held places (set ids n x) (n + 1) (snoc x (take n ids))
  pushed x h =
      record {
        row =
            record {
              size = length-set ids n x ∙ w.size;
              room = omega arith;
              clear = drop-set-lt (n + 1) ids n x (omega arith) ∙ clear-one;
            };
        list = rw add-one (take-suc-set ids n x (omega (arith, w.size)));
      }

  -- ---- remove: the part past k copied to k, and a zero at the last place

  module _ (k : ℕ) (h : k < n) where
    kept : List ℕ
    kept = take k ids ++ take (n - (k + 1)) (drop (k + 1) ids)

    kept-length : length kept ≡ n - 1
    unfolding kept
    kept-length =
        length_paste_head ids k (drop (k + 1) ids) (n - (k + 1)) (omega arith) (rw length-drop (omega arith)) ∙ omega arith

    kept-list : kept ≡ remove_at k (take n ids)
    unfolding kept
    kept-list =
        rw (remove_at_split, ← add-one k, take-take k n ids (omega arith), part_taken (k + 1) (n - (k + 1)) n ids (omega arith))

    whole : set (paste ids k (drop (k + 1) ids) (n - (k + 1))) (n - 1) 0 ≡ kept ++ blanks (places - (n - 1))
    unfolding kept
    whole =
        let at : k + (n - (k + 1)) ≡ n - 1 = omega arith in
        let next : suc (n - 1) ≡ n = omega arith in
        rw (at, drop-cons ids (n - 1) 0 (omega arith), next, w.clear)
        (set_at kept (get_or ids (n - 1) 0) (blanks (places - n)) 0 (n - 1) kept-length
        ∙ ap (λ (l : List ℕ). kept ++ l) (same-blanks (suc (places - n)) (places - (n - 1)) (omega arith)))

    pub removed : Held places (set (paste ids k (drop (k + 1) ids) (n - (k + 1))) (n - 1) 0) (n - 1) (remove_at k (take n ids))
    removed = rw (← kept-list) (held places (n - 1) _ kept whole kept-length (omega arith))

  -- ---- insert: the part from k on copied one place on, and x at k

  module _ (k x : ℕ) (h : n < places) (i : k ≤ n) where
    grown : List ℕ
    grown = take k (take n ids) ++ x ∷ drop k (take n ids)

    grown_length : length grown ≡ n + 1
    unfolding grown
    grown_length =
        length-append (take k (take n ids)) (x ∷ drop k (take n ids))
        ∙ rw (take-take k n ids i, length-take-le k ids (omega arith), length-drop k (take n ids), length-take-le n ids (omega arith)) (omega arith)

    grown_list : grown ≡ insert_at k x (take n ids)
    unfolding grown
    grown_list = sym (insert_at_split k x (take n ids) (omega (arith, length_held)))

    whole_in : set (paste ids (k + 1) (drop k ids) (n - k)) k x ≡ grown ++ blanks (places - (n + 1))
    unfolding grown
    whole_in =
        let at : k + 1 + (n - k) ≡ n + 1 = omega arith in
        rw (at, take-take k n ids i, part_taken k (n - k) n ids (omega arith), add-one k, take-suc ids k 0 (omega arith), clear-one)
        (simp append_assoc
        (set_at (take k ids) (get_or ids k 0) (take (n - k) (drop k ids) ++ blanks (places - (n + 1))) x k (length-take-le k ids (omega arith))))

    pub inserted : Held places (set (paste ids (k + 1) (drop k ids) (n - k)) k x) (n + 1) (insert_at k x (take n ids))
    inserted = rw (← grown_list) (held places (n + 1) _ grown whole_in grown_length (omega arith))

-- ---- rows

module _ {places many : ℕ} {rows : List (List ℕ)} {lengths : List ℕ} (w : Rows places many rows lengths) where
  pub lists-many : length (take_each lengths rows) ≡ many
  lists-many = length-take_each lengths rows (omega (arith, w.tall, w.wide)) ∙ w.wide

  module _ (p : ℕ) (h : p < many) where
    pub list_at : get_or (take_each lengths rows) p [] ≡ take (get_or lengths p 0) (get_or rows p [])
    list_at = take_each-at lengths rows p (omega (arith, w.wide)) (omega (arith, w.tall))

    pub length_at : length (get_or (take_each lengths rows) p []) ≡ get_or lengths p 0
    length_at = ap length list_at ∙ length_held (w.each p h)

    module _ {r : List ℕ} {n : ℕ} where
      stored_rows : Row places r n → Rows places many (set rows p r) (set lengths p n)
      stored_rows e =
          record {
            tall = length-set rows p r ∙ w.tall;
            wide = length-set lengths p n ∙ w.wide;
            each = λ q j.
                elim (ℕ_discrete q p) [
                  | yes s ↦ rw (s, get_or-set_same rows p r [] (omega (arith, w.tall)), get_or-set_same lengths p n 0 (omega (arith, w.wide))) e
                  | no s ↦ rw (get_or-set_other rows p q r [] s, get_or-set_other lengths p q n 0 s) (w.each q j)
                ];
          }

      -- a row stored with its length is a list changed
      pub stored : (g : List ℕ → List ℕ) → Held places r n (g (take (get_or lengths p 0) (get_or rows p []))) → Changed places many rows lengths p n g (set rows p r)
      stored g e =
          record {
            order = stored_rows e.row;
            lists =
                take_each-set lengths rows p n r
                ∙ ap (set (take_each lengths rows) p) (e.list ∙ ap g (sym list_at))
                ∙ alter-set g [] (take_each lengths rows) p;
          }

  -- a length as it is read at any place, also past the last row
  pub length_read : (p : ℕ) → length (get_or (take_each lengths rows) p []) ≡ get_or lengths p 0
  length_read p =
      elim (dec_lt p many) [
        | yes h ↦ length_at p h
        | no h ↦
            ap length (get_or-eq_default (take_each lengths rows) [] {n = p} (omega (arith, lists-many)))
            ∙ sym (get_or-eq_default lengths 0 {n = p} (omega (arith, w.wide)))
      ]
