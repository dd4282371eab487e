-- What the steps of entering and leaving do to the bytes of one half, and which cell they are done at. A half starts at a place of the
-- bytes: cell c of it is the byte at + c.
use Rattle.std.specs.Prelude.{◌≡◌, List, [], ◌∷◌, ◌++◌, ℕ, zero, suc, ◌+◌, ◌<◌, Option, Some, None, eqb, get_or, set, take, drop}
use Rattle.sequences.specs.Lists.{first_at, reversed}
use Rattle.sequences.specs.Links.{last_cell}

-- the link at one place handed to another, and v in its place
abbrev pub handed : ℕ → ℕ → ℕ → List ℕ → List ℕ
handed from to v s = set (set s to (get_or s from 0)) from v

-- cell y leads to i, and i to where y led
abbrev pub tied : ℕ → ℕ → ℕ → List ℕ → List ℕ
tied at y i s = handed (at + y) (at + i) (i + 1) s

-- cell y leads to where i led, and i nowhere
abbrev pub untied : ℕ → ℕ → ℕ → List ℕ → List ℕ
untied at y i s = handed (at + i) (at + y) 0 s

-- the cell that a link leads to, or c
abbrev pub cell_of : ℕ → ℕ → ℕ
cell_of c zero = c
cell_of c (suc p) = p

-- the first list with this link, of the m lists whose links stand from a place on
abbrev pub first_with : ℕ → ℕ → ℕ → List ℕ → ℕ
first_with m from link s = first_at (λ x. eqb x link) (take m (drop from s))

-- the cell of one half whose link leads to i, told by the other half or found among the lists; n + m where there is none
abbrev pub before : ℕ → ℕ → ℕ → ℕ → ℕ → List ℕ → ℕ
before n m here there i s = cell_of (n + first_with m (here + n) (i + 1) s) (get_or s (there + i) 0)

-- what is found: a number below a bound, or nothing where the number is the bound
abbrev pub Below : ℕ → ℕ → Option ℕ → Type 0
Below bound x None = x ≡ bound
Below bound x (Some y) = (x ≡ y) × (y < bound)

-- i stands on one of the lists, behind cell y and, seen from its end, behind cell z
pub record Beside (n i y z : ℕ) (ls : List (List ℕ)) : Type 0 where
  pub list : ℕ
  pub front : List ℕ
  pub rear : List ℕ
  pub parts : get_or ls list [] ≡ front ++ (i ∷ rear)
  pub before : y ≡ last_cell (n + list) front
  pub behind : z ≡ last_cell (n + list) (reversed rear)
