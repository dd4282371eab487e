-- Only threads stand on lists.
use mathlib.Core.Path.{◌≡◌, ◌∙◌}
use mathlib.Core.Bool.{false}
use Prim.Native.Nat.{ℕ, ◌≤◌}
use native.Mathlib.Omega.{arith}
use borrow.Author.Tests.{le-ltb}
use Rattle.sequences.specs.Lists.{count, count_all}
use Rattle.sequences.proofs.Counts.{among-count, among_any-count, count_all-at}
use Rattle.model.specs.State.{State, thread_count, stopped_list}
use Rattle.model.specs.Parts.{list}
use Rattle.model.specs.Words.{is_ready, is_stopped}
use Rattle.placed.specs.Placed.{Placed}

module _ {s : State} (w : Placed s) (i : ℕ) (past : thread_count ≤ i) where
  pub none_ready : is_ready i s ≡ false
  none_ready = among_any-count i s.ready ∙ le-ltb 0 (count_all i s.ready) (omega (arith, w.known i past))

  pub none-stopped : is_stopped i s ≡ false
  none-stopped =
      let l = list stopped_list s in
      among-count i l
      ∙ le-ltb 0 (count i l) (omega (arith, w.known i past, count_all-at i s.waits stopped_list))
