-- The busy table as its image: sound there too, and refused where a link is wrong, however little. Ready list 3 has threads 0 and 1, the list of
-- semaphore 0 has 2 and 8; threads 9 to 15 aren't there, and nobody waits for semaphore 1.
use Rattle.std.specs.Prelude.{Bool, not, List, [], ◌∷◌, ℕ, ◌+◌, ◌-◌, set, replicate, take}
use Rattle.sequences.specs.Lists.{tabulate, snoc}
use Rattle.sequences.specs.Links.{links_of, orderly_links}
use Rattle.model.specs.State.{thread_count, priority_count, semaphore_list}
use Rattle.model.specs.Layout.{threads_at, semaphores_at, mutexes_at, flags_at, timers_at, links_first, linked_lists, image_length, lay, orderly}
use Rattle.examples.specs.Busy.{busy}

-- ---- where the parts lie

-- the offsets that docs/IMAGE.md has for the parts of the image with links, and its end; the gate compares the page with these numbers
abbrev pub told_offsets : List ℕ
told_offsets = 0 ∷ 6 ∷ 278 ∷ 318 ∷ 330 ∷ 342 ∷ 478 ∷ 562 ∷ []

abbrev pub offsets : List ℕ
offsets =
    0
    ∷ threads_at.first
    ∷ semaphores_at.first
    ∷ mutexes_at.first
    ∷ flags_at.first
    ∷ timers_at.first
    ∷ links_first
    ∷ image_length
    ∷ []

-- ---- where the links of a thread and of a list stand

abbrev pub next_of : ℕ → ℕ
next_of i = links_first + i

abbrev pub first_of : ℕ → ℕ
first_of j = links_first + (thread_count + j)

abbrev pub previous_of : ℕ → ℕ
previous_of i = links_first + (thread_count + linked_lists + i)

abbrev pub last_of : ℕ → ℕ
last_of j = links_first + (thread_count + linked_lists + (thread_count + j))

-- the number of a semaphore's list among all that are linked
abbrev pub of_semaphore : ℕ → ℕ
of_semaphore o = priority_count + semaphore_list o

-- ---- the damages

-- 9 and 10, who aren't there, lead to each other
abbrev pub ring : List ℕ → List ℕ
ring b = set (set (set (set b (next_of 9) 11) (next_of 10) 10) (previous_of 9) 11) (previous_of 10) 10

unfoldable pub broken_links : List (List ℕ)
broken_links =
    -- the previous of the second on a list: nobody, itself; the previous of a first: somebody
    set (lay busy) (previous_of 8) 0
    ∷ set (lay busy) (previous_of 8) 9
    ∷ set (lay busy) (previous_of 2) 9
    -- a last that isn't, one of an empty list, and none where there is one
    ∷ set (lay busy) (last_of (of_semaphore 0)) 3
    ∷ set (lay busy) (last_of (of_semaphore 1)) 3
    ∷ set (lay busy) (last_of (of_semaphore 0)) 0
    -- a first into the middle of its list, and none where there is one
    ∷ set (lay busy) (first_of (of_semaphore 0)) 9
    ∷ set (lay busy) (first_of (of_semaphore 0)) 0
    -- a next that leads to its own thread, back to the first, past its list
    ∷ set (lay busy) (next_of 2) 3
    ∷ set (lay busy) (next_of 8) 3
    ∷ set (lay busy) (next_of 8) 1
    -- a ring off every list, and one that a first leads into
    ∷ ring (lay busy)
    ∷ set (set (ring (lay busy)) (first_of (of_semaphore 1)) 10) (last_of (of_semaphore 1)) 11
    -- links to nobody's id
    ∷ set (lay busy) (next_of 8) 17
    ∷ set (lay busy) (next_of 8) 255
    ∷ set (lay busy) (first_of (of_semaphore 1)) 17
    -- who stands nowhere has a link
    ∷ set (lay busy) (next_of 9) 10
    ∷ set (lay busy) (previous_of 9) 1
    -- two lists with one tail
    ∷ set (set (lay busy) (first_of (of_semaphore 1)) 2) (last_of (of_semaphore 1)) 2
    -- a byte too few, and one too many
    ∷ take (image_length - 1) (lay busy)
    ∷ snoc 0 (lay busy)
    ∷ []

unfoldable pub disorderly : List ℕ → Bool
disorderly b = not (orderly b)

-- ---- one list with everybody

-- the links of a list with all sixteen threads; the last thread's next is 0
unfoldable pub full_list : List ℕ
full_list = links_of thread_count (tabulate thread_count (λ i. i) ∷ replicate (linked_lists - 1) [])

-- the same with a next behind the sixteenth
unfoldable pub overfull_list : List ℕ
overfull_list = set full_list (thread_count - 1) 1

unfoldable pub right_links : List ℕ → Bool
right_links s = orderly_links thread_count linked_lists s
