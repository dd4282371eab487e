-- The link to the first waiter tells whether anybody waits, and who is first.
use mathlib.Core.Path.{refl, sym, ap}
use mathlib.Core.List.{List}
use Prim.Native.Nat.{ℕ, ◌+◌}
use native.Mathlib.Omega.{arith}
use Rattle.model.specs.Parts.{list}
use Rattle.model.specs.Effects.{post_to, post_semaphore}
use Rattle.model.specs.Layout.{view}
use Rattle.words.proofs.Does.{same_word}
use Rattle.words.proofs.Accepted.{unmoved_does}
use Rattle.words.proofs.Firsts.{none_first, one-first}
use Rattle.words.proofs.Known.{first_on}
use Rattle.serving.proofs.semaphores.post_semaphore.Goals as goal

pub wake-requires : goal.wake-requires
wake-requires c =
    first_on c.args.image.now (2 + c.args.o) _ c.requires.whole (omega (arith, c.requires.o_bound)) c.first_of-link.ensures
    (omega (arith, c.if-link-eq0.false))

pub returns-then-link-eq0 : goal.returns-then-link-eq0
unfolding post_semaphore post_to
returns-then-link-eq0 c =
    let o = c.args.o in
    let v = view c.args.image.now in
    same_word (unmoved_does c.requires.whole c.count_up.ensures refl refl refl) (post_semaphore o)
    (ap (λ (l : List ℕ). post_to o l v) (sym (none_first (list (2 + o) v) _ c.first_of-link.ensures (omega (arith, c.if-link-eq0.true)))))

pub returns-else-link-eq0 : goal.returns-else-link-eq0
unfolding post_semaphore post_to
returns-else-link-eq0 c =
    let o = c.args.o in
    let v = view c.args.image.now in
    same_word c.wake.ensures (post_semaphore o)
    (ap (λ (l : List ℕ). post_to o l v) (sym (one-first (list (2 + o) v) _ c.first_of-link.ensures (omega (arith, c.if-link-eq0.false)))))
