-- What the soundness test asks of one list, and how it counts: over the fields as they are stored, whatever they are.
use Rattle.std.specs.Prelude.{Bool, true, not, ◌&&◌, ◌||◌, List, map, ◌++◌, ◌≡◌, ℕ, zero, suc, ◌+◌, ◌<◌, ◌≤◌, eqb, leb, ltb, length, take, get_or, replicate}
use Rattle.sequences.specs.Lists.{count_all, every, falls}
use Rattle.model.specs.declared.tables.Thread.{Thread}
use Rattle.model.specs.declared.tables.IdList.{IdList}
use Rattle.model.specs.State.{thread_count}
use Rattle.model.specs.Sound.{ids_in_range}
use Rattle.model.specs.Before.{row_orderly, thread_at}
use Rattle.model.specs.Words.{holds}

-- one list as it is stored: room, zeros past its end, and threads' ids before it
unfoldable pub list_fits : ℕ → List ℕ → Bool
list_fits n ids = row_orderly n ids && ids_in_range (take n ids)

abbrev pub wait_list_fits : IdList → Bool
wait_list_fits l = list_fits l.length l.ids

-- the highest id that each place of a list may hold: a list of length n has the sixteen from place 16 - n on
unfoldable pub tops : List ℕ
tops = replicate 16 15 ++ replicate 16 0

-- the kinds of lists
abbrev pub of_ready : ℕ
of_ready = 0

abbrev pub of_sleep : ℕ
of_sleep = 1

abbrev pub of_stopped : ℕ
of_stopped = 2

-- of a semaphore or a mutex
abbrev pub of_object : ℕ
of_object = 3

abbrev pub of_flags : ℕ
of_flags = 4

-- what a list asks of each thread on it: a ready list its priority, the sleep list a limit, a flag object's list a condition that its word
-- doesn't meet
unfoldable pub member_fits : ℕ → ℕ → Thread → Bool
member_fits zero priority t = eqb t.current priority
member_fits (suc zero) nothing t = ltb 0 t.limit
member_fits (suc (suc zero)) nothing t = true
member_fits (suc (suc (suc zero))) nothing t = true
member_fits (suc (suc (suc (suc kind)))) word t = not (holds t.mode t.mask word) && (ltb 0 t.mask && leb t.mode 3)

-- all that a list asks: of each thread on it, and from an object's list on that the current priorities fall
unfoldable pub list_asks : ℕ → ℕ → List Thread → List ℕ → Bool
list_asks kind mark threads ids =
    every (λ i. member_fits kind mark (thread_at threads i)) ids && (ltb kind of_object || falls (map (λ i. (thread_at threads i).current) ids))

-- counts of the sixteen threads, none of them above this
pub record CountsUpTo (most : ℕ) (counts : List ℕ) : Type 0 where
  pub size : length counts ≡ thread_count
  pub small : (i : ℕ) → i < thread_count → get_or counts i 0 ≤ most

-- counts of the sixteen threads, after these lists have been counted too
pub record Tallied (before : List ℕ) (lists : List (List ℕ)) (after : List ℕ) : Type 0 where
  pub size : length after ≡ thread_count
  pub at : (i : ℕ) → i < thread_count → get_or after i 0 ≡ get_or before i 0 + count_all i lists

-- a walk over these lists, which ask this: what it found, and the counts before and after it
pub record Walked (counts : List ℕ) (asked : Bool) (lists : List (List ℕ)) (found : Bool) (counts-after : List ℕ) : Type 0 where
  pub answer : found ≡ asked
  pub tallied : Tallied counts lists counts-after
