-- Counters and their places, forth and back; and the nearer of two where one is known to be no later.
use Rattle.std.proofs.Common.{◌≡◌, ℕ, zero, suc, ◌+◌, ◌-◌, ◌<◌, ◌≤◌, refl, inl, inr, arith}
use Rattle.sequences.specs.Lists.{nearer}
use Rattle.sequences.specs.Jumps.{Free}
use Rattle.rules.specs.Counting.{never, place}

-- one that runs
pub place-back : (a : ℕ) {p : ℕ} → p ≡ place a → p < never → a ≡ p + 1
place-back zero e h = absurd (omega arith)
place-back (suc a) e h = omega arith

pub place-next : (a : ℕ) {p q : ℕ} → q ≡ place a → a ≡ p + 1 → q ≡ p
place-next zero e f = absurd (omega arith)
place-next (suc a) e f = omega arith

-- and one that doesn't
pub place_none : (a : ℕ) {p : ℕ} → p ≡ place a → a ≤ never → never ≤ p → a ≡ 0
place_none zero e fits h = refl
place_none (suc a) e fits h = absurd (omega arith)

pub place-most : (a d : ℕ) {p : ℕ} → p ≡ place a → d < a → d ≤ p
place-most zero d e h = absurd (omega arith)
place-most (suc a) d e h = omega arith

-- as many ticks as its place are free of it
pub place-free : (a m : ℕ) {p : ℕ} → p ≡ place a → m ≤ p → Free m a
place-free zero m e h = inl refl
place-free (suc a) m e h = inr (omega arith)

pub nearer-first : (a b : ℕ) → 0 < a → Free a b → nearer a b ≡ a
nearer-first zero b some free = absurd (omega arith)
nearer-first (suc a) zero some free = refl
nearer-first (suc a) (suc b) some (inl e) = absurd (omega arith)
nearer-first (suc a) (suc b) some (inr h) = omega arith

pub nearer-last : (a b : ℕ) {p : ℕ} → p ≡ place a → 0 < b → b ≤ p + 1 → nearer a b ≡ b
nearer-last zero b e some h = refl
nearer-last (suc a) zero e some h = absurd (omega arith)
nearer-last (suc a) (suc b) e some h = omega arith

pub nearer-none : (a : ℕ) → nearer a 0 ≡ a
nearer-none zero = refl
nearer-none (suc a) = refl

pub free-none : (a : ℕ) → Free 0 a
free-none zero = inl refl
free-none (suc a) = inr (omega arith)

-- where both are free for so long, so is the nearer
pub nearer-free : (m a b : ℕ) → Free m a → Free m b → Free m (nearer a b)
nearer-free m zero b h k = k
nearer-free m (suc a) zero h k = h
nearer-free m (suc a) (suc b) (inl e) k = absurd (omega arith)
nearer-free m (suc a) (suc b) (inr h) (inl e) = absurd (omega arith)
nearer-free m (suc a) (suc b) (inr h) (inr k) = inr (omega arith)

-- d of these ticks are over
pub free_less : (d m a : ℕ) → Free (d + m) a → Free m (a - d)
free_less d m a (inl e) = inl (omega arith)
free_less d m a (inr h) = inr (omega arith)

-- where it runs, its end is behind them
pub free-before : {m a n : ℕ} → a ≡ n → 0 < n → Free m a → m < n
free-before e some (inl z) = absurd (omega (arith, e, z, some))
free-before e some (inr h) = omega (arith, e, h)
