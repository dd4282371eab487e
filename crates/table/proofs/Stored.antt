-- The model's test `orderly` and the facts that words go by are the same.
use mathlib.Core.Path.{◌≡◌, refl, sym, ◌∙◌, ap}
use mathlib.Core.Bool.{Bool, true, ◌&&◌}
use mathlib.Core.List.{List, [], ◌∷◌, map}
use Prim.Native.Nat.{ℕ, suc, ◌-◌, ◌<◌}
use native.Mathlib.Omega.{arith}
use borrow.Author.Tests.{eqb-true, eq-eqb, leb-true, le-leb}
use lib.Dec.{eqb, leb}
use lib.ListN.{length, take, drop, get_or, length-drop, length-map}
use Rattle.sequences.specs.Lists.{every, every_below, all_zero, padded}
use Rattle.sequences.proofs.Tests.{both, left, right, all_true-at, every-at, every-from, every_below-at, every_below-from}
use Rattle.sequences.proofs.Padding.{zeros-all_zero, all_zero-zeros, take-padded, padded-take, take_each-padded, lengths_taken, rows-padded}
use Rattle.rows.specs.Row.{Row, blanks}
use Rattle.rows.proofs.Rows.{length_held, lists-many}
use Rattle.model.specs.declared.tables.IdList.{IdList}
use Rattle.model.specs.declared.tables.Table.{Table}
use Rattle.model.specs.State.{State}
use Rattle.model.specs.Sound.{sizes, shaped, sound_but_choice, choice_fits, sound}
use Rattle.model.specs.Before as layout
use Rattle.model.specs.Before.{view, ids_of, no_ids, laid_list, lay_table, lay_rows, row_orderly, orderly, sound_table, list_at}
use Rattle.placed.proofs.Sounds.{sound-placed}
use Rattle.table.specs.Orderly.{Orderly, Whole, Given}

-- ---- one row

module _ (n : ℕ) (ids : List ℕ) where
  pub row_facts : row_orderly n ids ≡ true → Row 16 ids n
  row_facts e =
      let sized = left (eqb (length ids) 16 && leb n 16) (all_zero (drop n ids)) e in
      let size : length ids ≡ 16 = eqb-true (length ids) 16 (left (eqb (length ids) 16) (leb n 16) sized) in
      let rest : length (drop n ids) ≡ 16 - n = length-drop n ids ∙ ap (λ (m : ℕ). m - n) size in
      record {
        size = size;
        room = leb-true n 16 (right (eqb (length ids) 16) (leb n 16) sized);
        clear = zeros-all_zero (drop n ids) (right (eqb (length ids) 16 && leb n 16) (all_zero (drop n ids)) e) ∙ ap blanks rest;
      }

  pub row_test : Row 16 ids n → row_orderly n ids ≡ true
  row_test w = both (both (eq-eqb (length ids) 16 w.size) (le-leb n 16 w.room)) (rw w.clear (all_zero-zeros (16 - n)))

-- ---- the table with its rows

module _ (t : Table) (rows : layout.Rows) where
  abbrev row_fits : ℕ → Bool
  row_fits p = row_orderly (get_or t.lengths p 0) (get_or rows p [])

  abbrev list_fits : IdList → Bool
  list_fits l = row_orderly l.length l.ids

  abbrev tests : List Bool
  tests = shaped (view t rows) ∷ eqb (length t.lengths) 8 ∷ eqb (length rows) 8 ∷ every_below 8 row_fits ∷ every list_fits t.waits ∷ []

  pub orderly_facts : orderly t rows ≡ true → Orderly t rows
  unfolding orderly shaped view
  orderly_facts e =
      let size : (k : ℕ) → get_or (sizes (view t rows)) k true ≡ true = λ k. all_true-at (sizes (view t rows)) k (all_true-at tests 0 e) in
      let waits : length t.waits ≡ 18 = sym (length-map t.waits ids_of) ∙ eqb-true (length (map ids_of t.waits)) 18 (size 6) in
      record {
        table =
            record {
              threads = eqb-true (length t.threads) 16 (size 0);
              semaphores = eqb-true (length t.semaphores) 8 (size 1);
              mutexes = eqb-true (length t.mutexes) 4 (size 2);
              flags = eqb-true (length t.flags) 4 (size 3);
              timers = eqb-true (length t.timers) 8 (size 4);
              waits = waits;
              lists = λ j h.
                  row_facts (list_at t.waits j).length (list_at t.waits j).ids (every-at list_fits no_ids t.waits j (omega arith) (all_true-at tests 4 e));
            };
        ready =
            record {
              tall = eqb-true (length rows) 8 (all_true-at tests 2 e);
              wide = eqb-true (length t.lengths) 8 (all_true-at tests 1 e);
              each = λ p h. row_facts (get_or t.lengths p 0) (get_or rows p []) (every_below-at row_fits 8 p h (all_true-at tests 3 e));
            };
      }

  pub orderly_test : Orderly t rows → orderly t rows ≡ true
  unfolding orderly shaped view
  orderly_test w =
      rw (
        w.table.threads,
        w.table.semaphores,
        w.table.mutexes,
        w.table.flags,
        w.table.timers,
        lists-many w.ready,
        length-map t.waits ids_of,
        w.table.waits,
        w.ready.wide,
        w.ready.tall,
        every_below-from row_fits 8 (λ p h. row_test (get_or t.lengths p 0) (get_or rows p []) (w.ready.each p h)),
        every-from list_fits no_ids t.waits (λ j h. row_test (list_at t.waits j).length (list_at t.waits j).ids (w.table.lists j (omega (arith, w.table.waits)))),
      )

-- ---- laid out and read again, nothing is lost; read and laid out again, an orderly table is as it was

pub view-laid : (s : State) → view (lay_table s) (lay_rows s) ≡ s
unfolding view lay_table lay_rows
view-laid s = rw (take_each-padded 16 s.ready, lists-laid s.waits)
  where
    lists-laid : (ls : List (List ℕ)) → map ids_of (map laid_list ls) ≡ ls
    lists-laid [] = refl
    lists-laid (l ∷ ls) = rw (take-padded 16 l, lists-laid ls)

padded-row : {ids : List ℕ} {n : ℕ} → Row 16 ids n → padded 16 (take n ids) ≡ ids
padded-row {ids} {n} w = rw (← w.size) (padded-take ids n (omega (arith, w.size, w.room)) (rw w.size w.clear))

list-laid : (l : IdList) → Row 16 l.ids l.length → laid_list (ids_of l) ≡ l
list-laid l w = rw (padded-row w, length_held w)

lists-laid : (ls : List IdList) → ((j : ℕ) → j < length ls → Row 16 (get_or ls j no_ids).ids (get_or ls j no_ids).length) → map laid_list (map ids_of ls) ≡ ls
lists-laid [] h = refl
lists-laid (l ∷ ls) h = rw (list-laid l (h 0 (omega arith)), lists-laid ls (λ j k. h (suc j) (omega arith)))

module _ {t : Table} {rows : layout.Rows} (w : Orderly t rows) where
  same-many : length rows ≡ length t.lengths
  same-many = w.ready.tall ∙ sym w.ready.wide

  row_at : (p : ℕ) → p < length t.lengths → Row 16 (get_or rows p []) (get_or t.lengths p 0)
  row_at p h = w.ready.each p (omega (arith, w.ready.wide))

  pub laid_table : lay_table (view t rows) ≡ t
  unfolding view lay_table
  laid_table =
      rw (
        lengths_taken t.lengths rows same-many (λ p h. omega (arith, (row_at p h).size, (row_at p h).room)),
        lists-laid t.waits (λ j h. w.table.lists j (omega (arith, w.table.waits))),
      )

  pub laid-rows : lay_rows (view t rows) ≡ rows
  unfolding view lay_rows
  laid-rows = rows-padded 16 t.lengths rows same-many (λ p h. padded-row (row_at p h))

-- ---- what words ask, every sound table has

pub sound-whole : {t : Table} {rows : layout.Rows} → sound_table t rows ≡ true → Whole t rows
unfolding sound_table sound
sound-whole {t} {rows} e =
    let s = view t rows in
    record {
      order = orderly_facts t rows (left (orderly t rows) (sound s) e);
      placed = sound-placed s (left (sound_but_choice s) (choice_fits s) (right (orderly t rows) (sound s) e));
    }

pub sound-given : {t : Table} {rows : layout.Rows} → sound_table t rows ≡ true → {i : ℕ} → i < 16 → Given t rows i
sound-given e h = record { whole = sound-whole e; thread = h }
