-- `walks::walk_ready` meets its contract: after p turns the first p ready lists have been gone over.
use mathlib.Core.Bool.{Bool}
use mathlib.Core.List.{List, []}
use Prim.Native.Nat.{ℕ}
use lib.ListN.{get_or, take}
use Rattle.sequences.specs.Lists.{take_each}
use Rattle.model.specs.declared.tables.Thread.{Thread}
use Rattle.soundness.specs.Lists.{list_asks, of_ready}
use Rattle.soundness.proofs.Walking.{Walking}
use Rattle.soundness.proofs.walks.walk_ready.Given as goal

abbrev pub asks_at : List Thread → List (List ℕ) → List ℕ → ℕ → Bool
asks_at threads rows lengths p = list_asks of_ready p threads (take (get_or lengths p 0) (get_or rows p []))

abbrev pub invariant-loop-p : goal.invariant-loop-p
invariant-loop-p l =
    Walking l.initial.counts (asks_at l.threads l.rows l.lengths) (take_each l.lengths l.rows) l.p l.fits l.counts
