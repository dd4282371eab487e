-- The actions of a timer leave threads standing as they must: whom they wake stands on a list, so that it is a thread.
use mathlib.Core.Path.{refl}
use mathlib.Core.List.{List, [], ◌∷◌}
use Prim.Native.Nat.{ℕ, zero, suc, ◌<◌}
use native.Mathlib.Omega.{arith}
use borrow.Author.Tests.{eq-eqb}
use lib.Bits.{bit_or}
use Rattle.sequences.specs.Lists.{count}
use Rattle.sequences.proofs.Counts.{count_all-at, count_split}
use Rattle.model.specs.State.{State, semaphore_list, flags_list}
use Rattle.model.specs.Parts.{thread, flag_object, list, alter_thread, alter_flags, with_delivered, with_word}
use Rattle.model.specs.Words.{wake, holds}
use Rattle.model.specs.Effects.{post_to, post_semaphore, wake_each, met, change_word, set_flags, act}
use Rattle.placed.specs.Placed.{Placed}
use Rattle.placed.proofs.Standing.{unmoved_placed, alter-placed, standing_below}
use Rattle.placed.proofs.Entering.{wake-placed}

-- ---- lists of threads

abbrev Threads : List ℕ → Type 0
Threads l = (x : ℕ) → 0 < count x l → x < 16

first_below : (i : ℕ) (l : List ℕ) → Threads (i ∷ l) → i < 16
first_below i l below = below i (rw (eq-eqb i i refl) (omega arith))

listed-threads : {s : State} → Placed s → (j : ℕ) → Threads (list j s)
listed-threads {s} w j x h = standing_below w x (omega (arith, count_all-at x s.waits j))

-- ---- a post

post_to-placed : (o : ℕ) (l : List ℕ) (s : State) → Threads l → Placed s → Placed (post_to o l s)
unfolding post_to
post_to-placed o [] s below w = unmoved_placed refl refl refl w
post_to-placed o (i ∷ l) s below w = wake-placed i 1 s (first_below i l below) w

pub post_semaphore-placed : (o : ℕ) (s : State) → Placed s → Placed (post_semaphore o s)
unfolding post_semaphore
post_semaphore-placed o s w = post_to-placed o (list (semaphore_list o) s) s (listed-threads w (semaphore_list o)) w

-- ---- a changed word

wake_each-placed : (word : ℕ) (l : List ℕ) (s : State) → Threads l → Placed s → Placed (wake_each word l s)
unfolding wake_each
wake_each-placed word [] s below w = w
wake_each-placed word (i ∷ l) s below w =
    let told = alter_thread i (with_delivered word) s in
    wake_each-placed word l (wake i 1 told) (λ x h. below x (omega arith))
    (wake-placed i 1 told (first_below i l below) (alter-placed i (with_delivered word) s (λ t. refl) w))

change_word-placed : (o word : ℕ) (s : State) → Placed s → Placed (change_word o word s)
unfolding change_word
change_word-placed o word s w =
    let l = list (flags_list o) s in
    wake_each-placed word (met word l s) (alter_flags o (with_word word) s)
    (λ x h.
    listed-threads w (flags_list o) x (omega (arith, count_split (λ i. holds (thread i s).mode (thread i s).mask word) x l)))
    (unmoved_placed refl refl refl w)

pub set_flags-placed : (o mask : ℕ) (s : State) → Placed s → Placed (set_flags o mask s)
unfolding set_flags
set_flags-placed o mask s w = change_word-placed o (bit_or (flag_object o s).word mask) s w

-- ---- any action

pub act-placed : (kind object mask : ℕ) (s : State) → Placed s → Placed (act kind object mask s)
unfolding act
act-placed zero object mask s w = w
act-placed (suc zero) object mask s w = post_semaphore-placed object s w
act-placed (suc (suc kind)) object mask s w = set_flags-placed object mask s w
