-- The mark tells the list, and nobody else than the threads stands on one.
use mathlib.Core.Path.{◌≡◌, sym, ◌∙◌, ap}
use mathlib.Core.Bool.{Bool, ◌&&◌}
use Prim.Native.Nat.{ℕ, ◌<◌, ◌≤◌}
use native.Mathlib.Omega.{arith}
use borrow.Author.Tests.{le-ltb}
use lib.Dec.{leb, ltb}
use lib.ListN.{get_or}
use Rattle.std.proofs.lemmas.Grind.{common_steps}
use Rattle.model.specs.Layout.{view, lists_of}
use Rattle.links.proofs.Marks.{mark-none}
use Rattle.sound.proofs.Marks.{mark-front}
use Rattle.sound.proofs.choice.is_ready.Goals as goal

abbrev marked-ready : ℕ → Bool
marked-ready mark = ltb 0 mark && leb mark 8

pub returns-then-x-lt-THREAD_COUNT : goal.returns-then-x-lt-THREAD_COUNT
unfolding view
returns-then-x-lt-THREAD_COUNT c =
    let i = c.args.i in
    let told : c.contains.result ≡ marked-ready c.from.result = grind (arith, common_steps) in
    let here : i < 16 = omega (arith, c.from-x.ensures, c.if-x-lt-THREAD_COUNT.true) in
    let is : c.from.result ≡ get_or c.args.marks.now i 0 = c.from.ensures ∙ ap (λ (n : ℕ). get_or c.args.marks.now n 0) c.from-x.ensures in
    told ∙ ap marked-ready (is ∙ c.requires.followed.marked.at i here) ∙ sym (mark-front i 8 (lists_of c.args.image.now))

pub returns-else-x-lt-THREAD_COUNT : goal.returns-else-x-lt-THREAD_COUNT
unfolding view
returns-else-x-lt-THREAD_COUNT c =
    let i = c.args.i in
    let ls = lists_of c.args.image.now in
    let past : 16 ≤ i = omega (arith, c.from-x.ensures, c.if-x-lt-THREAD_COUNT.false) in
    le-ltb c.from-x.result 16 c.if-x-lt-THREAD_COUNT.false ∙ sym (mark-front i 8 ls ∙ ap marked-ready (mark-none i ls (c.requires.orderly.apart.known i past)))
