-- What a stored list that fits is, place by place, and that the test passes exactly there.
use mathlib.Core.Path.{◌≡◌, refl}
use mathlib.Core.Bool.{Bool, true, false}
use mathlib.Core.List.{List}
use Prim.Native.Nat.{ℕ, ◌+◌, ◌-◌, ◌<◌, ◌≤◌}
use native.Mathlib.Omega.{arith}
use borrow.Author.Tests.{leb-true, le-leb, ltb-true, ltb-false, lt-ltb}
use lib.Dec.{leb, ltb}
use lib.ListN.{length, get_or, take}
use lib.Seq.{get_or-take}
use Rattle.sequences.specs.Lists.{every, every_below}
use Rattle.sequences.proofs.Tests.{both, left, right, same_truth, untrue, every-at, every-from, every_below-at, every_below-from}
use Rattle.rows.specs.Row.{Row}
use Rattle.rows.proofs.Rows.{row_from, zero_past, length_held}
use Rattle.model.specs.Sound.{ids_in_range}
use Rattle.model.specs.Before.{row_orderly}
use Rattle.table.proofs.Stored.{row_facts, row_test}
use Rattle.soundness.specs.Lists.{list_fits, tops}
use Rattle.soundness.proofs.Tops.{top_before, top_past}

pub record Fitting (n : ℕ) (places : List ℕ) : Type 0 where
  pub row : Row 16 places n
  pub ids : (k : ℕ) → k < n → get_or places k 0 < 16

-- a place of a stored list, by the highest id that it may hold
abbrev pub place-fits : ℕ → List ℕ → ℕ → Bool
place-fits n row k = leb (get_or row k 0) (get_or tops (16 - n + k) 0)

module _ (n : ℕ) (row : List ℕ) where
  pub fitting : list_fits n row ≡ true → Fitting n row
  unfolding list_fits ids_in_range
  fitting e =
      let w = row_facts n row (left (row_orderly n row) (ids_in_range (take n row)) e) in
      let ranged : every (λ i. ltb i 16) (take n row) ≡ true = right (row_orderly n row) (ids_in_range (take n row)) e in
      record {
        row = w;
        ids = λ k h. rw (← get_or-take n row k 0 h) (ltb-true _ _ (every-at (λ i. ltb i 16) 0 (take n row) k (omega (arith, length_held w)) ranged));
      }

  pub id-in_range : list_fits n row ≡ true → (k : ℕ) → k < n → (k < 16) × (get_or row k 0 < 16)
  id-in_range e k h = let w = fitting e in (omega (arith, w.row.room), w.ids k h)

  fits : Fitting n row → list_fits n row ≡ true
  unfolding list_fits ids_in_range
  fits w =
      both (row_test n row w.row)
      (every-from (λ i. ltb i 16) 0 (take n row)
      (λ k i. let h : k < n = omega (arith, length_held w.row) in rw (get_or-take n row k 0 h) (lt-ltb (get_or row k 0) 16 (w.ids k h))))

  -- there is room for sixteen
  pub too_long : 16 < n → list_fits n row ≡ false
  too_long h = untrue (list_fits n row) (λ e. absurd (omega (arith, (fitting e).row.room)))

  module _ (size : length row ≡ 16) (room : n ≤ 16) where
    fitting_places : every_below 16 (place-fits n row) ≡ true → Fitting n row
    fitting_places e =
        let most : (k : ℕ) → k < 16 → get_or row k 0 ≤ get_or tops (16 - n + k) 0 =
        λ k h. leb-true _ _ (every_below-at (place-fits n row) 16 k h e) in
        record {
          row = row_from row size room (λ k i j. omega (arith, most k j, top_past n k i j));
          ids = λ k i. omega (arith, most k (omega arith), top_before n k room i);
        }

    place_of : Fitting n row → (k : ℕ) → k < 16 → (b : Bool) → ltb k n ≡ b → place-fits n row k ≡ true
    place_of w k i true h =
        let j = ltb-true k n h in
        le-leb (get_or row k 0) (get_or tops (16 - n + k) 0) (omega (arith, top_before n k room j, w.ids k j))
    place_of w k i false h = le-leb (get_or row k 0) (get_or tops (16 - n + k) 0) (omega (arith, zero_past w.row k (ltb-false k n h) i))

    -- the test, place by place
    pub fits_by_place : every_below 16 (place-fits n row) ≡ list_fits n row
    fits_by_place =
        same_truth (every_below 16 (place-fits n row)) (list_fits n row) (λ e. fits (fitting_places e))
        (λ e. every_below-from (place-fits n row) 16 (λ k i. place_of (fitting e) k i (ltb k n) refl))
