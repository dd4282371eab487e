-- `walks::walk_flags` meets its contract: after o turns the lists of the first o flag objects have been gone over.
use mathlib.Core.Bool.{Bool}
use mathlib.Core.List.{List, map}
use Prim.Native.Nat.{ℕ, ◌+◌}
use lib.ListN.{get_or}
use lib.Seq.{slice}
use Rattle.model.specs.declared.tables.Thread.{Thread}
use Rattle.model.specs.declared.tables.Flags.{Flags}
use Rattle.model.specs.declared.tables.IdList.{IdList}
use Rattle.model.specs.State.{absent_flags}
use Rattle.model.specs.Before.{ids_of, list_at}
use Rattle.soundness.specs.Lists.{list_asks, of_flags}
use Rattle.soundness.proofs.Walking.{Walking}
use Rattle.soundness.proofs.walks.walk_flags.Given as goal

abbrev pub asks_at : List Thread → List IdList → List Flags → ℕ → Bool
asks_at threads waits flags o = list_asks of_flags (get_or flags o absent_flags).word threads (ids_of (list_at waits (14 + o)))

abbrev pub invariant-loop-o : goal.invariant-loop-o
invariant-loop-o l =
    Walking l.initial.counts (asks_at l.threads l.waits l.flags) (slice 14 18 (map ids_of l.waits)) l.o l.fits l.counts
