-- The other half's link where there is one, else the list that i is first on.
use mathlib.Core.Path.{sym, ◌∙◌}
use Prim.Native.Nat.{◌+◌}
use native.Mathlib.Omega.{arith}
use lib.ListN.{get_or}
use Rattle.std.specs.Prelude.{Some, None}
use Rattle.links.specs.Cells.{first_with}
use Rattle.links.proofs.Neighbours.{cell-none}
use Rattle.links.proofs.Positions.{first_told}
use Rattle.links.proofs.cells.before.Goals as goal

pub returns-in_err-j : goal.returns-in_err-j
returns-in_err-j c =
    let a = c.args in
    let t = first_told a.m (a.here + a.n) (a.i + 1) a.links.now None (omega arith) (sym c.in_err-j.was ∙ c.first_with.ensures) in
    let e = cell-none (a.n + first_with a.m (a.here + a.n) (a.i + 1) a.links.now) (get_or a.links.now (a.there + a.i) 0) c.if-link-ne0.false in
    rw c.from_residual.ensures (omega (arith, e, t))

pub returns : goal.returns
returns c =
    let a = c.args in
    let t = first_told a.m (a.here + a.n) (a.i + 1) a.links.now (Some c.in_ok-j.j) (omega arith) (sym c.in_ok-j.was ∙ c.first_with.ensures) in
    let e = cell-none (a.n + first_with a.m (a.here + a.n) (a.i + 1) a.links.now) (get_or a.links.now (a.there + a.i) 0) c.if-link-ne0.false in
    (omega (arith, e, t.0), omega (arith, t.1))
