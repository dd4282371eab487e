-- Lists of ids kept by links, for any number n of ids and any number of lists. A link is an id plus one, 0 for none. The links stand in two
-- halves of one form: ahead, the next of each id and the first of each list; and back, the previous of each id and the last of each list,
-- which is the same lists read from behind. A cell of a half is an id's, 0 to n - 1, or the one that stands before list j, n + j; so a first is
-- the next of the cell before its list, and every rule is told once.
use Rattle.std.specs.Prelude.{◌≡◌, Bool, cond, ◌&&◌, List, [], ◌∷◌, ◌++◌, map, ℕ, zero, suc, ◌+◌, ◌<◌, ◌≤◌, eqb, ltb, leb, length, get_or, take, drop}
use Rattle.sequences.specs.Lists.{tabulate, reversed, count_all, every, every_below, same_list}

-- ---- lists read along links

-- the ids from a link on, k of them at most: a ring is cut off, and reads as repeats
unfoldable pub along : (ℕ → ℕ) → ℕ → ℕ → List ℕ
along f zero x = []
along f (suc k) zero = []
along f (suc k) (suc i) = i ∷ along f k (f i)

-- where a cell of a half leads
abbrev pub leads : List ℕ → ℕ → ℕ
leads half c = get_or half c 0

-- the lists that a half leads through
unfoldable pub lists : ℕ → List ℕ → List (List ℕ)
lists n half = map (along (leads half) n) (drop n half)

-- the m lists that links lead through: those of the half ahead
abbrev pub lists_in : ℕ → ℕ → List ℕ → List (List ℕ)
lists_in n m s = lists n (take (n + m) s)

-- ---- lists laid out as links

-- the link of cell c on the way that goes from cell b through a list
abbrev pub link_from : ℕ → ℕ → List ℕ → ℕ
link_from b c [] = 0
link_from b c (x ∷ l) = cond (eqb b c) (suc x) (link_from x c l)

-- the first link that isn't 0
abbrev pub or_link : ℕ → ℕ → ℕ
or_link zero k = k
or_link (suc x) k = suc x

-- the link of cell c by these lists, before the first of which stands cell b, before the second b + 1, and so on
abbrev pub link_in : ℕ → ℕ → List (List ℕ) → ℕ
link_in b c [] = 0
link_in b c (l ∷ ls) = or_link (link_from b c l) (link_in (suc b) c ls)

unfoldable pub half_of : ℕ → List (List ℕ) → List ℕ
half_of n ls = tabulate (n + length ls) (λ c. link_in n c ls)

-- the links of these lists
abbrev pub links_of : ℕ → List (List ℕ) → List ℕ
links_of n ls = half_of n ls ++ half_of n (map reversed ls)

-- ---- whether links are right

-- only ids below n, each once at most over all lists
unfoldable pub once : ℕ → List (List ℕ) → Bool
once n ls = every (λ l. every (λ x. ltb x n) l) ls && every_below n (λ x. leb (count_all x ls) 1)

-- they are the links of the lists that they lead through
unfoldable pub orderly_links : ℕ → ℕ → List ℕ → Bool
orderly_links n m s = eqb (length (lists_in n m s)) m && (once n (lists_in n m s) && same_list s (links_of n (lists_in n m s)))

-- ---- the same, cell by cell: what laws and contracts speak of

-- from cell c on the links lead through this list, and end
abbrev pub Chain : (ℕ → ℕ) → ℕ → List ℕ → Type 0
Chain f c [] = f c ≡ 0
Chain f c (x ∷ l) = (f c ≡ suc x) × Chain f x l

-- the last cell on the way from c through a list
abbrev pub last_cell : ℕ → List ℕ → ℕ
last_cell c [] = c
last_cell c (x ∷ a) = last_cell x a

-- the link to a list's first
abbrev pub head_link : List ℕ → ℕ
head_link [] = 0
head_link (x ∷ l) = suc x

-- only ids below n, each once at most over all lists
pub record Once (n : ℕ) (ls : List (List ℕ)) : Type 0 where
  pub once : (x : ℕ) → count_all x ls ≤ 1
  pub known : (x : ℕ) → n ≤ x → count_all x ls ≡ 0

-- a half leads through these lists, and who stands on none has no link
pub record Half (n : ℕ) (f : ℕ → ℕ) (ls : List (List ℕ)) : Type 0 where
  pub chains : (j : ℕ) → j < length ls → Chain f (n + j) (get_or ls j [])
  pub zeros : (x : ℕ) → x < n → count_all x ls ≡ 0 → f x ≡ 0

-- these are the links of these lists
pub record Linked (n m : ℕ) (s : List ℕ) (ls : List (List ℕ)) : Type 0 where
  pub size : length s ≡ n + m + (n + m)
  pub many : length ls ≡ m
  pub apart : Once n ls
  pub ahead : Half n (leads (take (n + m) s)) ls
  pub back : Half n (leads (drop (n + m) s)) (map reversed ls)

-- they are the links of the lists that they lead through
abbrev pub Orderly : ℕ → ℕ → List ℕ → Type 0
Orderly n m s = Linked n m s (lists_in n m s)
