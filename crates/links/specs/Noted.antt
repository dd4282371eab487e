-- Links that nothing is known of, followed list by list: what is noted of each id on the way, and what is known behind the last list.
use Rattle.std.specs.Prelude.{◌≡◌, Bool, true, false, cond, ◌&&◌, ◌||◌, List, [], ◌++◌, ℕ, suc, ◌+◌, ◌-◌, ◌<◌, ◌≤◌, eqb, leb, length, get_or, take, drop}
use Rattle.sequences.specs.Lists.{among, among_any, first_at, reversed, snoc}
use Rattle.sequences.specs.Links.{along, lists_in, leads, head_link, last_cell, Chain, Once, Orderly}

-- one more than the number of the list that x stands on, 0 for none
unfoldable pub mark : ℕ → List (List ℕ) → ℕ
mark x ls = cond (among_any x ls) (suc (first_at (among x) ls)) 0

-- the marks of all ids
pub record Marked (n : ℕ) (ls : List (List ℕ)) (marks : List ℕ) : Type 0 where
  pub size : length marks ≡ n
  pub at : (x : ℕ) → x < n → get_or marks x 0 ≡ mark x ls

-- to nobody, or to an id that isn't noted yet
unfoldable pub leads_anew : ℕ → List ℕ → ℕ → Bool
leads_anew n marks link = eqb link 0 || (leb link n && eqb (get_or marks (link - 1) 0) 0)

-- the first j lists have been followed: nobody stands on them twice, they end, and they read the same from behind
pub record Through (n m j : ℕ) (s marks : List ℕ) : Type 0 where
  pub within : j ≤ m
  pub marked : Marked n (take j (lists_in n m s)) marks
  pub apart : Once n (take j (lists_in n m s))
  pub ahead : (i : ℕ) → i < j → Chain (leads (take (n + m) s)) (n + i) (get_or (lists_in n m s) i [])
  pub back : (i : ℕ) → i < j → Chain (leads (drop (n + m) s)) (n + i) (reversed (get_or (lists_in n m s) i []))

-- list j is being followed, k ids have been passed: `came` is the link to the last of them, `link` leads to the next. They are the start of the
-- list that is read, a link back to the last of them leads back through all, and so far nobody stands on a list twice
pub record Following (n m j : ℕ) (s marks : List ℕ) (k came link : ℕ) : Type 0 where
  pub within : k ≤ n
  pub passed : List ℕ
  pub onward : get_or (lists_in n m s) j [] ≡ passed ++ along (leads (take (n + m) s)) (n - k) link
  pub here : link ≡ leads (take (n + m) s) (last_cell (n + j) passed)
  pub last : came ≡ head_link (reversed passed)
  pub back : (c : ℕ) → leads (drop (n + m) s) c ≡ came → Chain (leads (drop (n + m) s)) c (reversed passed)
  pub apart : Once n (snoc passed (take j (lists_in n m s)))
  pub marked : Marked n (snoc passed (take j (lists_in n m s))) marks

-- all of them have: who stands where, that the previous link of who stands on a list leads to an id, and what is left to be asked
pub record Noted (n m : ℕ) (s marks : List ℕ) : Type 0 where
  pub marked : Marked n (lists_in n m s) marks
  pub back : (x : ℕ) → x < n → 0 < mark x (lists_in n m s) → get_or s (n + m + x) 0 ≤ n
  pub whole : ((x : ℕ) → x < n → mark x (lists_in n m s) ≡ 0 → (get_or s x 0 ≡ 0) × (get_or s (n + m + x) 0 ≡ 0)) → Orderly n m s

-- what a walk tells: that it came through, or that the links aren't orderly
pub record Tells (found : Bool) (through : Type 0) (orderly : Type 0) : Type 0 where
  pub passed : found ≡ true → through
  pub failed : found ≡ false → orderly → ⊥
