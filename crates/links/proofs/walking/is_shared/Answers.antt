-- The links to the first and to the last are compared.
use Prim.Native.Nat.{ℕ, ◌≤◌}
use mathlib.Core.List.{[]}
use lib.ListN.{get_or}
use native.Mathlib.Omega.{arith}
use Rattle.sequences.specs.Lists.{count}
use Rattle.sequences.specs.Links.{lists_in}
use Rattle.sequences.proofs.Counts.{count_all-at}
use Rattle.links.proofs.Entered.{last_is, shared_by}
use Rattle.links.proofs.Ways.{set_out, walk_link}
use Rattle.links.proofs.walking.is_shared.Goals as goal

pub returns : goal.returns
returns c =
    let ls = lists_in c.args.n c.args.m c.args.links.now in
    let once : (z : ℕ) → count z (get_or ls c.args.j []) ≤ 1 = λ z. omega (arith, c.requires.orderly.apart.once z, count_all-at z ls c.args.j) in
    shared_by (get_or ls c.args.j []) once (walk_link (set_out c.requires.orderly c.requires.j_lt_m)) (last_is c.requires.orderly c.requires.j_lt_m)
