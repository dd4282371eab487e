-- What has been passed is the start of list j. Each fault that ends the walk is one that orderly links don't have.
use mathlib.Core.Path.{◌≡◌}
use Prim.Native.Nat.{◌+◌, ◌-◌, ◌<◌}
use lib.ListN.{get_or}
use Rattle.sequences.specs.Bytes.{part}
use Rattle.links.specs.Noted.{Following}
use Rattle.links.proofs.noting.follow.Given as goal

abbrev pub invariant-loop-link : goal.invariant-loop-link
invariant-loop-link l =
    (Following l.n l.m l.j (part l.at (l.n + l.m + (l.n + l.m)) l.bytes) l.marks l.k l.came l.link) × (l.link < 256) × (l.came ≡ 0 → (l.link ≡ 0 → ⊥) → get_or l.marks (l.link - 1) 0 ≡ 0)

abbrev pub decreases-loop-link : goal.decreases-loop-link
decreases-loop-link l = l.n - l.k
