-- Both halves are tied at the cell before the place and at the one behind it.
use mathlib.Core.Path.{◌≡◌, ◌∙◌, ap}
use native.Mathlib.Omega.{arith}
use lib.ListN.{length}
use Rattle.links.proofs.Entered.{behind-within, entered}
use Rattle.links.proofs.Stores.{length-handed}
use Rattle.links.proofs.Ways.{walk_reads, walk_within}
use Rattle.links.proofs.entering.enter_behind.Goals as goal

pub bounds-links-y : goal.bounds-links-y
bounds-links-y c =
    let p = c.requires in
    walk_reads (record { orderly = p.orderly; list = p.enters.list; behind = p.by_index.1 })

pub tie-requires : goal.tie-requires
tie-requires c =
    let p = c.requires in
    let y = walk_within (record { orderly = p.orderly; list = p.enters.list; behind = p.by_index.1 }) in
    (omega (arith, p.orderly.size), omega (arith, p.orderly.size, p.enters.id), omega (arith, p.enters.id, p.enters.small))

pub tie-requires-2 : goal.tie-requires-2
tie-requires-2 c =
    let p = c.requires in
    let size : length c.tie.new.links ≡ length c.args.links.now = ap length c.tie.ensures ∙ length-handed _ _ _ c.args.links.now in
    let within = behind-within (record { orderly = p.orderly; list = p.enters.list; behind = p.by_index.1 }) p.enters in
    (omega (arith, p.orderly.size, c.cell_of-z.ensures), omega (arith, p.orderly.size, p.enters.id), omega (arith, p.enters.id, p.enters.small))

pub returns : goal.returns
returns c k b =
    let p = c.requires in
    entered (record { orderly = p.orderly; list = p.enters.list; behind = b }) p.enters c.cell_of-z.ensures c.tie.ensures c.tie-2.ensures
