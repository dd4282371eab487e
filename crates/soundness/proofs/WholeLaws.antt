-- The passes together are the model's test: the same clauses, sorted otherwise. What the passes don't ask holds of every declared table.
use mathlib.Core.Path.{◌≡◌, refl, sym, ◌∙◌}
use mathlib.Core.Bool.{Bool, true, false, ◌&&◌}
use Prim.Native.Nat.{ℕ, ◌≤◌}
use borrow.Author.Tests.{le-leb}
use lib.ListN.{get_or}
use Rattle.sequences.specs.Lists.{every}
use Rattle.sequences.proofs.Tests.{both, left, right, same_truth, untrue, all_true-at}
use Rattle.model.specs.declared.tables.Table.{Table}
use Rattle.model.specs.State.{State}
use Rattle.model.specs.Ranges.{fits_32}
use Rattle.model.specs.Sound.{ids_in_range, field_ranges, fields_in_range, shaped}
use Rattle.model.specs.Sound.{clauses, sound_but_choice, sound, choice_fits}
use Rattle.model.specs.Before.{Rows, view, orderly, sound_table}
use Rattle.soundness.specs.Whole.{ready_fits, waits_fit, lists_fit, members_fit, threads_fit, records_fit, member_clauses, thread_clauses, record_clauses}
use Rattle.soundness.specs.Shape.{Shape}
use Rattle.soundness.proofs.ListLaws.{OrderlyLists, shape_shaped, lists-orderly, lists_pass}

-- ---- soundness but for the choice: the shape and the clock, the ids in lists, and what three passes ask

abbrev asked : State → Bool
asked s = members_fit s && threads_fit s && records_fit s

-- a clause is named by its place in the list that has it
module _ (s : State) (shape : shaped s ≡ true) (clock : fits_32 s.clock ≡ true) where
  asked-sound : every ids_in_range s.ready ≡ true → every ids_in_range s.waits ≡ true → asked s ≡ true → sound_but_choice s ≡ true
  unfolding sound_but_choice clauses fields_in_range members_fit threads_fit records_fit
  asked-sound ready waits e =
      let m : (k : ℕ) → get_or (member_clauses s) k true ≡ true = λ k. all_true-at (member_clauses s) k (left (members_fit s) (threads_fit s) (left (members_fit s && threads_fit s) (records_fit s) e)) in
      let t : (k : ℕ) → get_or (thread_clauses s) k true ≡ true = λ k. all_true-at (thread_clauses s) k (right (members_fit s) (threads_fit s) (left (members_fit s && threads_fit s) (records_fit s) e)) in
      let r : (k : ℕ) → get_or (record_clauses s) k true ≡ true = λ k. all_true-at (record_clauses s) k (right (members_fit s && threads_fit s) (records_fit s) e) in
      let fields : fields_in_range s ≡ true = both clock (both (r 0) (both (t 0) (both (r 1) (both (r 5) (both (r 11) (both (r 13) (both ready (both waits refl)))))))) in
      both shape (both fields (both (t 1) (both (t 2) (both (m 0) (both (m 1) (both (t 3) (both (r 2) (both (r 3) (both (r 6) (both (r 7) (both (r 8) (both (r 9) (both (m 3) (both (m 4) (both (r 14) (both (r 15) (both (r 16) (both (m 2) (both (t 4) (both (t 5) (both (t 6) (both (t 7) (both (r 4) (both (r 10) (both (r 12) refl)))))))))))))))))))))))))

  sound-asked : sound_but_choice s ≡ true → asked s ≡ true
  unfolding sound_but_choice clauses fields_in_range members_fit threads_fit records_fit
  sound-asked e =
      let c : (k : ℕ) → get_or (clauses s) k true ≡ true = λ k. all_true-at (clauses s) k e in
      let f : (k : ℕ) → get_or (field_ranges s) k true ≡ true = λ k. all_true-at (field_ranges s) k (c 1) in
      both
      (both (both (c 4) (both (c 5) (both (c 18) (both (c 13) (both (c 14) refl)))))
      (both (f 2) (both (c 2) (both (c 3) (both (c 6) (both (c 19) (both (c 20) (both (c 21) (both (c 22) refl)))))))))
      (both (f 1) (both (f 3) (both (c 7) (both (c 8) (both (c 23) (both (f 4) (both (c 9) (both (c 10) (both (c 11) (both (c 12) (both (c 24) (both (f 5) (both (c 25) (both (f 6) (both (c 15) (both (c 16) (both (c 17) refl)))))))))))))))))

-- ---- the whole

module _ (t : Table) (rows : Rows) (w : Shape t rows) where
  sound_fit : sound_table t rows ≡ true → lists_fit t rows ≡ true
  unfolding sound_table sound sound_but_choice clauses fields_in_range lists_fit
  sound_fit e =
      let s = view t rows in
      let whole = left (sound_but_choice s) (choice_fits s) (right (orderly t rows) (sound s) e) in
      let field : (k : ℕ) → get_or (field_ranges s) k true ≡ true = λ k. all_true-at (field_ranges s) k (all_true-at (clauses s) 1 whole) in
      let p = lists_pass t rows w (record { layout = left (orderly t rows) (sound s) e; ready = field 7; waits = field 8 }) in
      both p.0 p.1

  -- lists that don't fit are not sound
  pub unfit_unsound : lists_fit t rows ≡ false → sound_table t rows ≡ false
  unfit_unsound h = untrue (sound_table t rows) (λ e. sym h ∙ sound_fit e)

  pub fit_lists : lists_fit t rows ≡ true → OrderlyLists t rows
  unfolding lists_fit
  fit_lists h = lists-orderly t rows w (left (ready_fits t rows) (waits_fit t) h) (right (ready_fits t rows) (waits_fit t) h)

  pub fit_sound : t.clock ≤ 4294967295 → lists_fit t rows ≡ true → asked (view t rows) && choice_fits (view t rows) ≡ sound_table t rows
  unfolding sound_table sound view
  fit_sound clock h =
      let s = view t rows in
      let o = fit_lists h in
      let shape = shape_shaped t rows w in
      let in_range : fits_32 s.clock ≡ true = le-leb t.clock 4294967295 clock in
      let asks : asked s ≡ sound_but_choice s =
      same_truth (asked s) (sound_but_choice s) (asked-sound s shape in_range o.ready o.waits) (sound-asked s shape in_range)
      in
      rw (asks, o.layout)
