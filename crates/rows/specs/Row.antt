-- Lists of ids in rows of fixed room, for any room and any number of rows.
use Rattle.std.specs.Prelude.{◌≡◌, List, [], ℕ, ◌-◌, ◌≤◌, ◌<◌, length, take, drop, replicate, get_or, set}
use Rattle.sequences.specs.Lists.{alter, take_each}

-- n places with nothing in them
abbrev pub blanks : ℕ → List ℕ
blanks n = replicate n 0

-- a row of so many places whose first n hold ids; those past them are 0
pub record Row (places : ℕ) (ids : List ℕ) (n : ℕ) : Type 0 where
  pub size : length ids ≡ places
  pub room : n ≤ places
  pub clear : drop n ids ≡ blanks (places - n)

-- a row whose first n places hold this list
pub record Held (places : ℕ) (ids : List ℕ) (n : ℕ) (l : List ℕ) : Type 0 where
  pub row : Row places ids n
  pub list : take n ids ≡ l

-- so many rows, each with its length beside it
pub record Rows (places many : ℕ) (rows : List (List ℕ)) (lengths : List ℕ) : Type 0 where
  pub tall : length rows ≡ many
  pub wide : length lengths ≡ many
  pub each : (p : ℕ) → p < many → Row places (get_or rows p []) (get_or lengths p 0)

-- rows after one of them, p, has changed: it now has n ids, and its list is what g makes of it
pub record Changed (places many : ℕ) (rows : List (List ℕ)) (lengths : List ℕ) (p n : ℕ) (g : List ℕ → List ℕ) (after : List (List ℕ)) : Type 0 where
  pub order : Rows places many after (set lengths p n)
  pub lists : take_each (set lengths p n) after ≡ alter p g (take_each lengths rows)
