-- What the view of an image passes without being asked: the shape, the range of the clock, and the ids on lists on which everybody stands once.
use mathlib.Core.Path.{◌≡◌, refl, ◌∙◌}
use mathlib.Core.Bool.{true}
use mathlib.Core.List.{List, []}
use Prim.Native.Nat.{ℕ, ◌≤◌}
use native.Mathlib.Decide.{dec_lt}
use native.Mathlib.Omega.{arith}
use borrow.Author.Tests.{eq-eqb, lt-ltb, le-leb}
use lib.Dec.{ltb}
use lib.ListN.{length, get_or, length-drop}
use lib.Seq.{length-take-le}
use Rattle.sequences.specs.Lists.{count_all, every}
use Rattle.sequences.specs.Bytes.{Bytes}
use Rattle.sequences.specs.Links.{Once}
use Rattle.sequences.proofs.Tests.{both, every-from}
use Rattle.sequences.proofs.Counts.{count_all-at}
use Rattle.sequences.proofs.Parts.{every_if_counted}
use Rattle.sequences.proofs.RecordsFit.{reads_fit}
use Rattle.model.specs.State.{thread_count}
use Rattle.model.specs.Ranges.{fits_32}
use Rattle.model.specs.Sound.{shaped, ids_in_range}
use Rattle.model.specs.Layout.{head_widths, linked_lists, lists_of, view}
use Rattle.layout.proofs.Viewed.{many-threads, many_semaphores, many_mutexes, many_flags, many_timers, counts_linked}

-- where nobody else than the threads is counted
known-in_range : (ls : List (List ℕ)) → ((x : ℕ) → thread_count ≤ x → count_all x ls ≡ 0) → every ids_in_range ls ≡ true
unfolding ids_in_range
known-in_range ls known =
    every-from ids_in_range [] ls
    (λ j h.
    every_if_counted (λ x. ltb x thread_count) (get_or ls j [])
    (λ x c.
    elim (dec_lt x thread_count) [
      | yes l ↦ lt-ltb x thread_count l
      | no l ↦ absurd (omega (arith, known x (omega arith), count_all-at x ls j))
    ]))

module _ (b : List ℕ) where
  pub view-shaped : length (lists_of b) ≡ linked_lists → shaped (view b) ≡ true
  unfolding shaped view
  view-shaped many =
      let ls = lists_of b in
      both (eq-eqb _ 16 (many-threads b))
      (both (eq-eqb _ 8 (many_semaphores b))
      (both (eq-eqb _ 4 (many_mutexes b))
      (both (eq-eqb _ 4 (many_flags b))
      (both (eq-eqb _ 8 (many_timers b))
      (both (eq-eqb _ 8 (length-take-le 8 ls (omega arith)))
      (both (eq-eqb _ 18 (length-drop 8 ls ∙ omega arith))
      refl))))))

  module _ (once : Once thread_count (lists_of b)) where
    pub ready-in_range : every ids_in_range (view b).ready ≡ true
    ready-in_range = known-in_range (view b).ready (λ x h. omega (arith, counts_linked b x, once.known x h))

    pub waits-in_range : every ids_in_range (view b).waits ≡ true
    waits-in_range = known-in_range (view b).waits (λ x h. omega (arith, counts_linked b x, once.known x h))

  pub clock-fits : Bytes b → fits_32 (view b).clock ≡ true
  unfolding view
  clock-fits o = let h = reads_fit b o head_widths 0 in le-leb (view b).clock 4294967295 (omega arith)
