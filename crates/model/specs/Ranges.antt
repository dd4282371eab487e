-- The ranges that 01 states for single numbers, and which ids name something that is there. Soundness and the answers 3 and 4
-- both go by these.
use Rattle.std.specs.Prelude.{Bool, true, false, not, ◌&&◌, ◌||◌, ℕ, zero, suc, eqb, leb, ltb}
use Rattle.model.specs.State.{State, thread_count, priority_count, semaphore_count, mutex_count, flags_count}
use Rattle.model.specs.Parts.{thread, semaphore, mutex, flag_object}

infixr 25 ◌implies◌
-- the premise fails, or the conclusion holds
abbrev pub ◌implies◌ : Bool → Bool → Bool
a implies b = not a || b

-- ---- numbers

-- marks: created, repeat, scheduling
abbrev pub is_bit : ℕ → Bool
is_bit x = leb x 1

abbrev pub is_priority : ℕ → Bool
is_priority x = ltb x priority_count

-- quanta, counts, flag words
abbrev pub fits_16 : ℕ → Bool
fits_16 x = leb x 65535

-- masks, maxima
abbrev pub is_positive_16 : ℕ → Bool
is_positive_16 x = ltb 0 x && fits_16 x

-- the clock, limits, ticks to advance, expiry counts
abbrev pub fits_32 : ℕ → Bool
fits_32 x = leb x 4294967295

-- ticks to sleep, periods
abbrev pub is_positive_32 : ℕ → Bool
is_positive_32 x = ltb 0 x && fits_32 x

-- ---- ids

abbrev pub has_thread : ℕ → State → Bool
has_thread i s = ltb i thread_count && eqb (thread i s).created 1

abbrev pub has_semaphore : ℕ → State → Bool
has_semaphore o s = ltb o semaphore_count && eqb (semaphore o s).created 1

abbrev pub has_mutex : ℕ → State → Bool
has_mutex o s = ltb o mutex_count && eqb (mutex o s).created 1

abbrev pub has_flags : ℕ → State → Bool
has_flags o s = ltb o flags_count && eqb (flag_object o s).created 1

-- ---- 01, Calls, the action of a timer (call 19)

-- a post names a semaphore that is there, a set a flag object that is there
abbrev pub names_object : ℕ → ℕ → State → Bool
names_object zero object s = true
names_object (suc zero) object s = has_semaphore object s
names_object (suc (suc zero)) object s = has_flags object s
names_object (suc (suc (suc kind))) object s = true

-- nothing takes no object and no mask, a post no mask, a set one mask; there is no other kind
abbrev pub action_in_range : ℕ → ℕ → ℕ → Bool
action_in_range zero object mask = eqb object 0 && eqb mask 0
action_in_range (suc zero) object mask = eqb mask 0
action_in_range (suc (suc zero)) object mask = is_positive_16 mask
action_in_range (suc (suc (suc kind))) object mask = false
