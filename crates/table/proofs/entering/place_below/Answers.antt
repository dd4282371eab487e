-- The ids are searched in their order.
use mathlib.Core.Path.{◌≡◌, ◌∙◌}
use Prim.Native.Nat.{ℕ, ◌<◌}
use native.Mathlib.Omega.{arith}
use borrow.Author.Rules.{rules}
use borrow.Author.Tests.{tests}
use lib.Dec.{ltb}
use lib.ListN.{length, take}
use lib.Seq.{get_or-take, length-take-le}
use Rattle.std.proofs.lemmas.Iterator.{YieldsList-from_slice}
use Rattle.std.proofs.lemmas.Iterator.Adapters.{serves_from_places}
use Rattle.model.specs.Before.{thread_at}
use Rattle.table.proofs.Passing.{element_at, first_of}
use Rattle.table.proofs.entering.place_below.Goals as goal

pub position-requires-clause-callable : goal.position-requires-clause-callable
position-requires-clause-callable c =
    let a = c.args in
    let many : length (take a.n a.ids) ≡ a.n = length-take-le a.n a.ids (omega arith) in
    serves_from_places (YieldsList-from_slice (take a.n a.ids) (search rules)) (λ x q k. search rules)
    (λ x k h e.
    let below : x.now < 16 = element_at (λ (i : ℕ). i < 16) 0 (take a.n a.ids) (λ j g. rw (get_or-take a.n a.ids j 0 (omega arith)) (c.requires.by_index j (omega arith))) x.now k h e in
    search (arith, rules))

pub returns : goal.returns
returns c =
    let a = c.args in
    let many : length (take a.n a.ids) ≡ a.n = length-take-le a.n a.ids (omega arith) in
    c.unwrap_or.ensures
    ∙ first_of (λ x. ltb (thread_at a.threads x).current a.p) (take a.n a.ids) many c.position.ensures.ran (search rules) (λ x b q k. search (rules, tests))
