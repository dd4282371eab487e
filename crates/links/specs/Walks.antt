-- A walk along one list, from cell to cell: how far it has come, and what it has found on the way. And who may be put on a list, and where:
-- behind a cell that a walk has come to.
use Rattle.std.specs.Prelude.{◌≡◌, Bool, List, [], ◌++◌, ℕ, ◌+◌, ◌<◌, ◌≤◌, length, get_or, take, drop}
use Rattle.sequences.specs.Lists.{count_all, first_at, among}
use Rattle.sequences.specs.Links.{Orderly, lists_in, last_cell}

-- list j
abbrev pub list_in : ℕ → ℕ → ℕ → List ℕ → List ℕ
list_in n m j s = get_or (lists_in n m s) j []

-- k ids of a list lead up to cell y; the cell before the list is n + j
pub record Behind (n j : ℕ) (l : List ℕ) (k y : ℕ) : Type 0 where
  pub within : k ≤ length l
  pub cell : y ≡ last_cell (n + j) (take k l)

-- i is on no list, and may be put on list j
pub record Enters (n m i j : ℕ) (ls : List (List ℕ)) : Type 0 where
  pub id : i < n
  pub small : n < 256
  pub list : j < m
  pub off : count_all i ls ≡ 0

-- ---- along list j of orderly links

-- the walk has come to cell y, behind k ids
pub record Underway (n m j : ℕ) (s : List ℕ) (k y : ℕ) : Type 0 where
  pub orderly : Orderly n m s
  pub list : j < m
  pub behind : Behind n j (list_in n m j s) k y

-- the first that passes stands at place k, behind cell y
pub record Ranked (n j : ℕ) (l : List ℕ) (passes : ℕ → Bool) (k y : ℕ) : Type 0 where
  pub first : k ≡ first_at passes l
  pub behind : Behind n j l k y

-- a search for it has come to place k: what it finds is found from there on
pub record Ranking (n m j : ℕ) (s : List ℕ) (passes : ℕ → Bool) (k y : ℕ) : Type 0 where
  pub way : Underway n m j s k y
  pub onward : first_at passes (list_in n m j s) ≡ k + first_at passes (drop k (list_in n m j s))

-- a list of k ids stands in a row, and behind it the row is as it was
pub record ReadOut (l : List ℕ) (k : ℕ) (old row : List ℕ) : Type 0 where
  pub many : k ≡ length l
  pub ids : row ≡ l ++ drop k old

-- so far the list's first k do
pub record Reading (n m j : ℕ) (s : List ℕ) (k y : ℕ) (old row : List ℕ) : Type 0 where
  pub way : Underway n m j s k y
  pub ids : take k row ≡ take k (list_in n m j s)
  pub rest : drop k row ≡ drop k old
  pub size : length row ≡ n

-- ---- back along a list

-- the walk back from i has come to x, which stands on the same list or, as i, on none
pub record Together (n : ℕ) (ls : List (List ℕ)) (i x : ℕ) : Type 0 where
  pub known : x < n
  pub same : first_at (among x) ls ≡ first_at (among i) ls
