-- `walks::walk_ids` meets its contract: after k turns the first k ids have been counted, and what has been found with what the list asks of
-- the others is what it asks of all.
use mathlib.Core.Path.{◌≡◌}
use mathlib.Core.Bool.{◌&&◌}
use mathlib.Core.List.{[], ◌∷◌}
use lib.ListN.{take}
use Rattle.soundness.specs.Lists.{Tallied, list_asks}
use Rattle.soundness.specs.Members.{kind_of, mark_of}
use Rattle.soundness.proofs.Asking.{rest_asks}
use Rattle.soundness.proofs.walks.walk_ids.Given as goal

abbrev pub invariant-loop-k : goal.invariant-loop-k
invariant-loop-k l =
    (list_asks (kind_of l.members) (mark_of l.members) l.threads (take l.n l.ids)
    ≡ l.fits && rest_asks (kind_of l.members) (mark_of l.members) l.threads (take l.n l.ids) l.k l.before)
    × Tallied l.initial.counts (take l.k l.ids ∷ []) l.counts
