-- The passes over the lists as they are stored: they ask what the layout's test and the ranges of ids ask, list by list.
use mathlib.Core.Path.{◌≡◌, refl, sym, ◌∙◌, ap}
use mathlib.Core.Bool.{Bool, true, ◌&&◌, and-true}
use mathlib.Core.List.{[], map}
use Prim.Native.Nat.{ℕ, ◌<◌}
use native.Mathlib.Omega.{arith}
use borrow.Author.Tests.{eq-eqb}
use lib.ListN.{length, get_or, take, length-map}
use Rattle.sequences.specs.Lists.{every, every_below, take_each}
use Rattle.sequences.proofs.Tests.{both, left, right, every_below_both}
use Rattle.sequences.proofs.Bounds.{every-places}
use Rattle.sequences.proofs.Places.{take_each-at, length-take_each}
use Rattle.model.specs.declared.tables.IdList.{IdList}
use Rattle.model.specs.declared.tables.Table.{Table}
use Rattle.model.specs.Sound.{shaped, ids_in_range}
use Rattle.model.specs.Before.{Rows, ids_of, no_ids, view, row_orderly, orderly, list_at}
use Rattle.table.proofs.Views.{list-view}
use Rattle.soundness.specs.Lists.{list_fits}
use Rattle.soundness.specs.Whole.{ready_fits, waits_fit}
use Rattle.soundness.specs.Shape.{Shape}

abbrev rows_orderly : Table → Rows → Bool
rows_orderly t rows = every_below 8 (λ p. row_orderly (get_or t.lengths p 0) (get_or rows p []))

abbrev waits-orderly : Table → Bool
waits-orderly t = every (λ (l : IdList). row_orderly l.length l.ids) t.waits

-- what they stand for
pub record OrderlyLists (t : Table) (rows : Rows) : Type 0 where
  pub layout : orderly t rows ≡ true
  pub ready : every ids_in_range (view t rows).ready ≡ true
  pub waits : every ids_in_range (view t rows).waits ≡ true

module _ (t : Table) (rows : Rows) (w : Shape t rows) where
  pub ready_at : (p : ℕ) → p < 8 → get_or (take_each t.lengths rows) p [] ≡ take (get_or t.lengths p 0) (get_or rows p [])
  ready_at p h = take_each-at t.lengths rows p (omega (arith, w.lengths)) (omega (arith, w.rows))

  ready-count : length (take_each t.lengths rows) ≡ 8
  ready-count = length-take_each t.lengths rows (w.rows ∙ sym w.lengths) ∙ w.lengths

  pub waits-count : length (map ids_of t.waits) ≡ 18
  waits-count = length-map t.waits ids_of ∙ w.waits

  -- ---- shape and layout

  pub shape_shaped : shaped (view t rows) ≡ true
  unfolding shaped view
  shape_shaped =
      both (eq-eqb _ _ w.threads)
      (both (eq-eqb _ _ w.semaphores)
      (both (eq-eqb _ _ w.mutexes)
      (both (eq-eqb _ _ w.flags) (both (eq-eqb _ _ w.timers) (both (eq-eqb _ _ ready-count) (both (eq-eqb _ _ waits-count) refl))))))

  layout_parts : orderly t rows ≡ rows_orderly t rows && waits-orderly t
  unfolding orderly
  layout_parts =
      rw (shape_shaped, eq-eqb (length t.lengths) 8 w.lengths, eq-eqb (length rows) 8 w.rows)
      (ap (λ (b : Bool). rows_orderly t rows && b) (and-true (waits-orderly t)))

  ready-parts : ready_fits t rows ≡ rows_orderly t rows && every ids_in_range (view t rows).ready
  unfolding list_fits view
  ready-parts =
      let ranged : ℕ → Bool = λ p. ids_in_range (take (get_or t.lengths p 0) (get_or rows p [])) in
      every_below_both (λ p. row_orderly (get_or t.lengths p 0) (get_or rows p [])) ranged 8
      ∙ ap (λ (b : Bool). rows_orderly t rows && b)
      (sym (every-places ids_in_range [] (take_each t.lengths rows) 8 ranged ready-count (λ p h. ap ids_in_range (ready_at p h))))

  waits-parts : waits_fit t ≡ waits-orderly t && every ids_in_range (view t rows).waits
  unfolding list_fits view
  waits-parts =
      let stored : ℕ → Bool = λ j. row_orderly (list_at t.waits j).length (list_at t.waits j).ids in
      let ranged : ℕ → Bool = λ j. ids_in_range (ids_of (list_at t.waits j)) in
      every_below_both stored ranged 18
      ∙ rw (
        every-places (λ (l : IdList). row_orderly l.length l.ids) no_ids t.waits 18 stored w.waits (λ j h. refl),
        every-places ids_in_range [] (map ids_of t.waits) 18 ranged waits-count (λ j h. ap ids_in_range (list-view t rows j)),
      )

  pub lists-orderly : ready_fits t rows ≡ true → waits_fit t ≡ true → OrderlyLists t rows
  lists-orderly e f =
      let in-ready = every ids_in_range (view t rows).ready in
      let in-waits = every ids_in_range (view t rows).waits in
      let r = sym ready-parts ∙ e in
      let v = sym waits-parts ∙ f in
      record {
        layout = layout_parts ∙ both (left (rows_orderly t rows) in-ready r) (left (waits-orderly t) in-waits v);
        ready = right (rows_orderly t rows) in-ready r;
        waits = right (waits-orderly t) in-waits v;
      }

  pub lists_pass : OrderlyLists t rows → (ready_fits t rows ≡ true) × (waits_fit t ≡ true)
  lists_pass o =
      let l = sym layout_parts ∙ o.layout in
      let stored = left (rows_orderly t rows) (waits-orderly t) l in
      (ready-parts ∙ both stored o.ready, waits-parts ∙ both (right (rows_orderly t rows) (waits-orderly t) l) o.waits)
