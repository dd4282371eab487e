-- The higher of two priorities is the other's where that is higher; else the thread's own, and to take that changes nothing.
use mathlib.Core.Path.{◌≡◌, sym, ap}
use Prim.Native.Nat.{ℕ, ◌<◌, ◌≤◌, max}
use native.Mathlib.Omega.{arith}
use borrow.Author.Tests.{eq-eqb}
use Rattle.model.specs.State.{State}
use Rattle.model.specs.Parts.{thread}
use Rattle.model.specs.Words.{take_priority}
use Rattle.model.specs.Effects.{raise}
use Rattle.model.specs.Layout.{view}
use Rattle.words.proofs.Does.{same_word}
use Rattle.serving.proofs.mutexes.raise.Goals as goal

-- with what was read of the state
module _ (i from : ℕ) (s : State) (p own : ℕ) (other : p ≡ (thread from s).current) (is : own ≡ (thread i s).current) where
  abbrev higher : ℕ
  higher = max (thread i s).current (thread from s).current

  raises : own < p → take_priority i p s ≡ raise i from s
  unfolding raise
  raises h = let e : p ≡ higher = omega (arith, other, is, h) in ap (λ (k : ℕ). take_priority i k s) e

  stays : p ≤ own → raise i from s ≡ s
  unfolding raise take_priority
  stays h = let e : (thread i s).current ≡ higher = omega (arith, other, is, h) in rw (eq-eqb (thread i s).current higher e)

pub take_priority-requires : goal.take_priority-requires
take_priority-requires c = record { given = c.requires.given; p_bound = rw c.current-p.ensures (c.requires.given.whole.placed.priorities c.args.from) }

pub returns-then-current-p : goal.returns-then-current-p
returns-then-current-p c =
    let a = c.args in
    same_word c.take_priority.ensures (raise a.i a.from)
    (raises a.i a.from (view a.image.now) _ _ c.current-p.ensures c.current.ensures (omega (arith, c.if-current-p.true)))

pub returns-else-current-p : goal.returns-else-current-p
returns-else-current-p c =
    let a = c.args in
    record {
      whole = c.requires.given.whole;
      view = sym (stays a.i a.from (view a.image.now) _ _ c.current-p.ensures c.current.ensures (omega (arith, c.if-current-p.false)));
    }
