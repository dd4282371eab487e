-- Links of four ids and three lists, computed: laid out, read back, and each kind of damage told by the test. The layout is the one that the
-- code works on: next links, first links, previous links, last links.
use mathlib.Core.Path.{◌≡◌, refl}
use mathlib.Core.Bool.{true, not}
use mathlib.Core.List.{List, [], ◌∷◌}
use Prim.Native.Nat.{ℕ}
use Rattle.sequences.specs.Lists.{tabulate, every, every_below}
use Rattle.sequences.specs.Links.{along, lists, lists_in, half_of, links_of, once, orderly_links}

-- 0 and 2 on the first list, 3 on the last, 1 on none; and all on the first
abbrev some-lists : List (List ℕ)
some-lists = (0 ∷ 2 ∷ []) ∷ [] ∷ (3 ∷ []) ∷ []

abbrev full_list : List (List ℕ)
full_list = (0 ∷ 1 ∷ 2 ∷ 3 ∷ []) ∷ [] ∷ [] ∷ []

-- next of 0 to 3, first of the lists; previous of 0 to 3, last of the lists
abbrev some-links : List ℕ
some-links = 3 ∷ 0 ∷ 0 ∷ 0 ∷ 1 ∷ 0 ∷ 4 ∷ 0 ∷ 0 ∷ 1 ∷ 0 ∷ 3 ∷ 0 ∷ 4 ∷ []

abbrev full_links : List ℕ
full_links = 2 ∷ 3 ∷ 4 ∷ 0 ∷ 1 ∷ 0 ∷ 0 ∷ 0 ∷ 1 ∷ 2 ∷ 3 ∷ 4 ∷ 0 ∷ 0 ∷ []

pub some-laid : links_of 4 some-lists ≡ some-links
unfolding half_of tabulate
some-laid = refl

pub full_laid : links_of 4 full_list ≡ full_links
unfolding half_of tabulate
full_laid = refl

pub some_read : lists_in 4 3 some-links ≡ some-lists
unfolding lists along
some_read = refl

pub full_read : lists_in 4 3 full_links ≡ full_list
unfolding lists along
full_read = refl

pub right-told : every (orderly_links 4 3) (some-links ∷ full_links ∷ []) ≡ true
unfolding orderly_links once every_below half_of tabulate lists along
right-told = refl

abbrev damaged : List (List ℕ)
damaged =
    -- a previous wrong
    (3 ∷ 0 ∷ 0 ∷ 0 ∷ 1 ∷ 0 ∷ 4 ∷ 0 ∷ 0 ∷ 4 ∷ 0 ∷ 3 ∷ 0 ∷ 4 ∷ [])
    -- a last wrong
    ∷ (3 ∷ 0 ∷ 0 ∷ 0 ∷ 1 ∷ 0 ∷ 4 ∷ 0 ∷ 0 ∷ 1 ∷ 0 ∷ 1 ∷ 0 ∷ 4 ∷ [])
    -- a first into the middle
    ∷ (3 ∷ 0 ∷ 0 ∷ 0 ∷ 3 ∷ 0 ∷ 4 ∷ 0 ∷ 0 ∷ 1 ∷ 0 ∷ 3 ∷ 0 ∷ 4 ∷ [])
    -- a next to itself
    ∷ (1 ∷ 0 ∷ 0 ∷ 0 ∷ 1 ∷ 0 ∷ 4 ∷ 0 ∷ 0 ∷ 1 ∷ 0 ∷ 3 ∷ 0 ∷ 4 ∷ [])
    -- a ring off every list
    ∷ (2 ∷ 1 ∷ 0 ∷ 0 ∷ 0 ∷ 0 ∷ 0 ∷ 2 ∷ 1 ∷ 0 ∷ 0 ∷ 0 ∷ 0 ∷ 0 ∷ [])
    -- a link out of range
    ∷ (6 ∷ 0 ∷ 0 ∷ 0 ∷ 1 ∷ 0 ∷ 4 ∷ 0 ∷ 0 ∷ 1 ∷ 0 ∷ 3 ∷ 0 ∷ 4 ∷ [])
    -- two lists with one tail
    ∷ (3 ∷ 0 ∷ 0 ∷ 3 ∷ 1 ∷ 0 ∷ 4 ∷ 0 ∷ 0 ∷ 1 ∷ 0 ∷ 3 ∷ 0 ∷ 3 ∷ [])
    -- a next after the last of a full list: it is read no further, so only the layout tells
    ∷ (2 ∷ 3 ∷ 4 ∷ 1 ∷ 1 ∷ 0 ∷ 0 ∷ 0 ∷ 1 ∷ 2 ∷ 3 ∷ 4 ∷ 0 ∷ 0 ∷ [])
    -- a next, then a previous, of somebody who stands nowhere
    ∷ (3 ∷ 3 ∷ 0 ∷ 0 ∷ 1 ∷ 0 ∷ 4 ∷ 0 ∷ 0 ∷ 1 ∷ 0 ∷ 3 ∷ 0 ∷ 4 ∷ [])
    ∷ (3 ∷ 0 ∷ 0 ∷ 0 ∷ 1 ∷ 0 ∷ 4 ∷ 0 ∷ 1 ∷ 1 ∷ 0 ∷ 3 ∷ 0 ∷ 4 ∷ [])
    ∷ []

pub damage_told : every (λ s. not (orderly_links 4 3 s)) damaged ≡ true
unfolding orderly_links once every_below half_of tabulate lists along
damage_told = refl
