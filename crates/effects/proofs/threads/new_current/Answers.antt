-- Only a base below the current priority asks who owns a mutex: for an owner the current one is the higher of the two.
use mathlib.Core.Path.{◌≡◌, refl, sym, ◌∙◌}
use mathlib.Core.Bool.{Bool, true, false, cond, false≢true}
use Prim.Native.Nat.{ℕ, ◌<◌, ◌≤◌, max}
use native.Mathlib.Omega.{arith}
use Rattle.model.specs.State.{State}
use Rattle.model.specs.Parts.{thread}
use Rattle.model.specs.Words.{owns_any}
use Rattle.model.specs.Effects.{new_current}
use Rattle.model.specs.Layout.{view}
use Rattle.effects.proofs.threads.new_current.Goals as goal

owned : (owner : Bool) (base current : ℕ) → owner ≡ true → base < current → current ≡ cond owner (max base current) base
owned true base current t h = omega (arith, h)
owned false base current t h = absurd (false≢true t)

unowned : (owner : Bool) (base current : ℕ) → owner ≡ false → base ≡ cond owner (max base current) base
unowned true base current t = absurd (false≢true (sym t))
unowned false base current t = refl

no_lower : (owner : Bool) (base current : ℕ) → current ≤ base → base ≡ cond owner (max base current) base
no_lower true base current h = omega (arith, h)
no_lower false base current h = refl

-- what the code has read is what the model asks
as_read : (i base : ℕ) (s : State) {owner : Bool} {current : ℕ} → owner ≡ owns_any i s → current ≡ (thread i s).current
    → cond owner (max base current) base ≡ new_current i base s
as_read i base s o e = rw (o, e)

pub returns-then-owns_any : goal.returns-then-owns_any
returns-then-owns_any c =
    let a = c.args in
    owned c.owns_any.result a.base c.current-current.result c.if-owns_any.true c.if-base-current.true
    ∙ as_read a.i a.base (view a.image.now) c.owns_any.ensures c.current-current.ensures

pub returns-else-owns_any : goal.returns-else-owns_any
returns-else-owns_any c =
    let a = c.args in
    unowned c.owns_any.result a.base c.current-current.result c.if-owns_any.false
    ∙ as_read a.i a.base (view a.image.now) c.owns_any.ensures c.current-current.ensures

pub returns-else-base-current : goal.returns-else-base-current
returns-else-base-current c =
    let a = c.args in
    let s = view a.image.now in
    no_lower (owns_any a.i s) a.base c.current-current.result (omega (arith, c.if-base-current.false)) ∙ as_read a.i a.base s refl c.current-current.ensures
