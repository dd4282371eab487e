-- The nearer of two counters of 32 bits is the one with the lesser place, and a counter is known by its place. By the cases of both, 0 or more.
use mathlib.Core.Path.{◌≡◌, refl, ap}
use Prim.Native.Nat.{ℕ, zero, suc, ◌-◌, ◌≤◌, min}
use native.Mathlib.Omega.{arith}
use borrow.Author.Tests.{ne_eqb}
use Rattle.sequences.specs.Lists.{nearer}
use Rattle.rules.specs.Counting.{never, place, counter_at}

pub running-place : (a : ℕ) → (a ≡ 0 → ⊥) → a - 1 ≡ place a
running-place zero runs = absurd (runs refl)
running-place (suc a) runs = omega arith

pub place_counter : (a : ℕ) → a ≤ never → counter_at (place a) ≡ a
place_counter zero h = refl
place_counter (suc a) h = rw (ne_eqb a never (λ e. omega arith)) (omega arith)

pub nearer-fits : (a b : ℕ) → a ≤ never → b ≤ never → nearer a b ≤ never
nearer-fits zero b h k = k
nearer-fits (suc a) zero h k = h
nearer-fits (suc a) (suc b) h k = omega arith

pub nearer-place : (a b : ℕ) → a ≤ never → b ≤ never → min (place a) (place b) ≡ place (nearer a b)
nearer-place zero zero h k = omega arith
nearer-place zero (suc b) h k = omega arith
nearer-place (suc a) zero h k = omega arith
nearer-place (suc a) (suc b) h k = let both : suc (min a b) ≡ min (suc a) (suc b) = omega arith in ap place both
