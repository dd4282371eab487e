-- A position among the first n is the first there.
use mathlib.Core.Path.{◌≡◌, ◌∙◌}
use native.Mathlib.Omega.{arith}
use borrow.Author.Rules.{rules}
use borrow.Author.Tests.{tests}
use lib.Dec.{eqb}
use lib.ListN.{take}
use Rattle.std.specs.List.{position}
use Rattle.std.proofs.lemmas.Iterator.{YieldsList-from_slice}
use Rattle.std.proofs.lemmas.Iterator.Search.{position_from_yields_List}
use Rattle.rows.proofs.Positions.{position_first}
use Rattle.rows.proofs.row.find.Goals as goal

pub returns : goal.returns
returns c =
    let a = c.args in
    let all = take a.n a.row in
    let e : c.position.result ≡ position (λ y. eqb y a.x) all =
    position_from_yields_List (λ y. eqb y a.x) _ _ c.position.result c.position.ensures.ran (YieldsList-from_slice all cc) (λ x b q k. search (rules, tests)) in
    c.unwrap_or.ensures ∙ position_first (λ y. eqb y a.x) a.n a.row c.position.result (omega arith) e
