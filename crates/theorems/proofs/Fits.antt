-- What a thread's record that fits says of each number, and that it still fits when a part of it is written anew within its range.
use mathlib.Core.Path.{◌≡◌}
use mathlib.Core.Bool.{true}
use Prim.Native.Nat.{ℕ, ◌<◌, ◌≤◌}
use borrow.Author.Tests.{ltb-true, leb-true}
use lib.Dec.{leb}
use lib.ListN.{get_or, set}
use Rattle.sequences.proofs.Tests.{all_true-at, all_true-set}
use Rattle.model.specs.declared.tables.Thread.{Thread}
use Rattle.model.specs.Parts.{with_base, with_current, with_quantum, with_wait, with_result, with_delivered}
use Rattle.model.specs.Ranges.{is_priority, fits_16, fits_32}
use Rattle.model.specs.Sound.{thread_ranges, thread_in_range, zero_thread}
use Rattle.theorems.specs.Lawful.{ThreadFits}

module _ {t : Thread} (f : ThreadFits t) where
  -- its tests, by their places
  pub range : (k : ℕ) → get_or (thread_ranges t) k true ≡ true
  unfolding thread_in_range
  range k = all_true-at (thread_ranges t) k f.in_range

  pub current_below : t.current < 8
  current_below = ltb-true t.current 8 (range 2)

  pub mark-most : t.created ≤ 1
  mark-most = leb-true t.created 1 (range 0)

  pub fits-base : (p : ℕ) → is_priority p ≡ true → (t.created ≡ 0 → zero_thread (with_base p t) ≡ true) → ThreadFits (with_base p t)
  unfolding thread_in_range
  fits-base p priority absent =
      record { in_range = all_true-set (thread_ranges t) 1 (is_priority p) priority f.in_range; within = f.within; some_left = f.some_left; absent = absent }

  pub fits-current : (p : ℕ) → is_priority p ≡ true → (t.created ≡ 0 → zero_thread (with_current p t) ≡ true) → ThreadFits (with_current p t)
  unfolding thread_in_range
  fits-current p priority absent =
      record { in_range = all_true-set (thread_ranges t) 2 (is_priority p) priority f.in_range; within = f.within; some_left = f.some_left; absent = absent }

  pub fits-quantum : (quantum left : ℕ) → fits_16 quantum ≡ true → fits_16 left ≡ true → left ≤ quantum → (0 < quantum → 0 < left)
      → (t.created ≡ 0 → zero_thread (with_quantum quantum left t) ≡ true) → ThreadFits (with_quantum quantum left t)
  unfolding thread_in_range
  fits-quantum quantum left most rest within some absent =
      let first = all_true-set (thread_ranges t) 3 (fits_16 quantum) most f.in_range in
      record { in_range = all_true-set (set (thread_ranges t) 3 (fits_16 quantum)) 4 (fits_16 left) rest first; within = within; some_left = some; absent = absent }

  pub fits-wait : (limit result mask mode : ℕ) → fits_32 limit ≡ true → leb result 2 ≡ true → fits_16 mask ≡ true → leb mode 3 ≡ true
      → (t.created ≡ 0 → zero_thread (with_wait limit result mask mode t) ≡ true) → ThreadFits (with_wait limit result mask mode t)
  unfolding thread_in_range
  fits-wait limit result mask mode a b c d absent =
      let limited = set (thread_ranges t) 5 (fits_32 limit) in
      let resulted = set limited 6 (leb result 2) in
      let masked = set resulted 7 (fits_16 mask) in
      let first = all_true-set (thread_ranges t) 5 (fits_32 limit) a f.in_range in
      let second = all_true-set limited 6 (leb result 2) b first in
      let third = all_true-set resulted 7 (fits_16 mask) c second in
      record { in_range = all_true-set masked 8 (leb mode 3) d third; within = f.within; some_left = f.some_left; absent = absent }

  pub fits-delivered : (word : ℕ) → fits_16 word ≡ true
      → (t.created ≡ 0 → zero_thread (with_delivered word t) ≡ true) → ThreadFits (with_delivered word t)
  unfolding thread_in_range
  fits-delivered word fits absent =
      record { in_range = all_true-set (thread_ranges t) 9 (fits_16 word) fits f.in_range; within = f.within; some_left = f.some_left; absent = absent }

  pub fits-result : (result : ℕ) → leb result 2 ≡ true
      → (t.created ≡ 0 → zero_thread (with_result result t) ≡ true) → ThreadFits (with_result result t)
  fits-result result fits absent = fits-wait t.limit result t.mask t.mode (range 5) fits (range 7) (range 8) absent
