-- Counters by their places: a counter less one, and behind all others one that doesn't run, which stands at 0. So the nearer of two is the one with
-- the lesser place, by one comparison.
use Rattle.std.specs.Prelude.{cond, ℕ, zero, suc, ◌+◌, eqb}

-- the greatest number of 32 bits
abbrev pub never : ℕ
never = 4294967295

abbrev pub place : ℕ → ℕ
place zero = never
place (suc a) = a

abbrev pub counter_at : ℕ → ℕ
counter_at p = cond (eqb p never) 0 (p + 1)
