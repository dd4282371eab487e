-- In each half the cell before i takes over its link.
use mathlib.Core.Path.{◌≡◌, ◌∙◌, ap}
use native.Mathlib.Omega.{arith}
use lib.ListN.{length}
use Rattle.links.proofs.Neighbours.{id-within, before-within, behind-within, left_by}
use Rattle.links.proofs.Stores.{length-handed}
use Rattle.links.proofs.leaving.take_out.Goals as goal

pub untie-requires : goal.untie-requires
untie-requires c =
    let p = c.requires in
    (omega (arith, before-within p.orderly p.beside, p.orderly.size), omega (arith, id-within p.orderly p.beside, p.orderly.size))

pub untie-requires-2 : goal.untie-requires-2
untie-requires-2 c =
    let p = c.requires in
    let size : length c.untie.new.links ≡ length c.args.links.now = ap length c.untie.ensures ∙ length-handed _ _ _ c.args.links.now in
    (omega (arith, behind-within p.orderly p.beside, p.orderly.size), omega (arith, id-within p.orderly p.beside, p.orderly.size))

pub returns : goal.returns
returns c =
    let p = c.requires in
    left_by p.orderly p.beside c.untie.ensures c.untie-2.ensures
