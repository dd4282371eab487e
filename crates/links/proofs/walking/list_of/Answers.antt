use mathlib.Core.Path.{◌∙◌}
use Prim.Native.Nat.{◌+◌}
use native.Mathlib.Omega.{arith}
use Rattle.links.proofs.Positions.{told_or}
use Rattle.links.proofs.Standing.{together_on, together_closer, together_end}
use Rattle.links.proofs.walking.list_of.Goals as goal

pub loop-x-smaller : goal.loop-x-smaller
loop-x-smaller c =
    together_closer c.requires.orderly c.loop-x.invariant c.loop-x-test.true c.id_of-x.ensures

pub loop-x-preserved : goal.loop-x-preserved
loop-x-preserved c =
    together_on c.requires.orderly c.loop-x.invariant c.loop-x-test.true c.id_of-x.ensures

pub returns : goal.returns
returns c =
    let first = told_or c.args.m c.args.n (c.loop-x.x + 1) c.args.links.now c.first_with.result (omega (arith, c.requires.orderly.size)) c.first_with.ensures in
    c.unwrap_or.ensures ∙ first ∙ together_end c.requires.orderly c.loop-x.invariant c.loop-x-test.false
