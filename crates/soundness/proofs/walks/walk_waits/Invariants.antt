-- `walks::walk_waits` meets its contract: after k turns the first k of the lists have been gone over.
use mathlib.Core.Bool.{Bool}
use mathlib.Core.List.{List, map}
use Prim.Native.Nat.{ℕ, ◌+◌}
use lib.Seq.{slice}
use Rattle.model.specs.declared.tables.Thread.{Thread}
use Rattle.model.specs.declared.tables.IdList.{IdList}
use Rattle.model.specs.Before.{ids_of, list_at}
use Rattle.soundness.specs.Lists.{list_asks}
use Rattle.soundness.specs.declared.walks.Members.{Members}
use Rattle.soundness.specs.Members.{kind_of, mark_of}
use Rattle.soundness.proofs.Walking.{Walking}
use Rattle.soundness.proofs.walks.walk_waits.Given as goal

abbrev pub asks_at : Members → List Thread → List IdList → ℕ → ℕ → Bool
asks_at members threads waits from k = list_asks (kind_of members) (mark_of members) threads (ids_of (list_at waits (from + k)))

abbrev pub invariant-loop-l : goal.invariant-loop-l
invariant-loop-l l =
    Walking l.initial.counts (asks_at l.members l.threads l.fn.waits l.from) (slice l.from l.to (map ids_of l.fn.waits)) l.l-index l.fits l.counts
