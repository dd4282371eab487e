-- The link to the first waiter tells whether anybody waits, and who is first; a mutex's record stands on no list, so that one stands as it did.
use mathlib.Core.Path.{◌≡◌, refl, sym, ap, ◌∙◌}
use mathlib.Core.List.{List}
use Prim.Native.Nat.{ℕ, ◌+◌, ◌-◌, ◌<◌}
use native.Mathlib.Omega.{arith}
use Rattle.sequences.specs.Links.{head_link}
use Rattle.model.specs.State.{State, mutex_list}
use Rattle.model.specs.Parts.{list, alter_mutex, with_owner}
use Rattle.model.specs.Effects.{hand_over}
use Rattle.model.specs.Layout.{view}
use Rattle.fields.specs.Fields.{Alters}
use Rattle.words.specs.Images.{Whole, On}
use Rattle.words.proofs.Does.{and_then, same_word}
use Rattle.words.proofs.Accepted.{unmoved_does}
use Rattle.words.proofs.Firsts.{none_first, one-first}
use Rattle.words.proofs.Known.{first_on}
use Rattle.serving.proofs.mutexes.hand_over.Goals as goal

still-first : (b r : List ℕ) (o owner depth link : ℕ) → Whole b → o < 4 → Alters b (alter_mutex o (with_owner owner depth)) r
    → link ≡ head_link (list (mutex_list o) (view b)) → 0 < link → On r (8 + mutex_list o) (link - 1)
still-first b r o owner depth link w h a e some =
    first_on r (10 + o) link (unmoved_does w a refl refl refl).whole (omega arith)
    (e ∙ sym (ap (λ (v : State). head_link (list (10 + o) v)) a.view)) some

pub wake-requires : goal.wake-requires
wake-requires c =
    still-first c.args.image.now _ c.args.o _ _ _ c.requires.whole c.requires.o_bound c.set_owner-else-link-eq0.ensures
    c.first_of-link.ensures (omega (arith, c.if-link-eq0.false))

pub returns-then-link-eq0 : goal.returns-then-link-eq0
unfolding hand_over
returns-then-link-eq0 c =
    let o = c.args.o in
    let v = view c.args.image.now in
    same_word (unmoved_does c.requires.whole c.set_owner.ensures refl refl refl) (λ (s₁ : State). hand_over o (list (mutex_list o) s₁) s₁)
    (ap (λ (l : List ℕ). hand_over o l v) (sym (none_first (list (10 + o) v) _ c.first_of-link.ensures (omega (arith, c.if-link-eq0.true)))))

pub returns-else-link-eq0 : goal.returns-else-link-eq0
unfolding hand_over
returns-else-link-eq0 c =
    let o = c.args.o in
    let v = view c.args.image.now in
    same_word (and_then (unmoved_does c.requires.whole c.set_owner-else-link-eq0.ensures refl refl refl) c.wake.ensures)
    (λ (s₁ : State). hand_over o (list (mutex_list o) s₁) s₁)
    (ap (λ (l : List ℕ). hand_over o l v) (sym (one-first (list (10 + o) v) _ c.first_of-link.ensures (omega (arith, c.if-link-eq0.false)))))
