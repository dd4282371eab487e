-- A thread off all lists enters one: that adds it to the counts once, so threads stand as they must again; and so they do after the words
-- that leave and enter.
use mathlib.Core.Path.{◌≡◌, refl, sym, ◌∙◌}
use mathlib.Core.Bool.{Bool, true, false, cond}
use mathlib.Core.Logic.{inl, inr}
use mathlib.Core.List.{List, [], ◌∷◌}
use Prim.Native.Nat.{ℕ, ◌+◌, ◌<◌, ◌≤◌}
use native.Mathlib.Decide.{ℕ_discrete}
use native.Mathlib.Omega.{arith}
use borrow.Author.Tests.{ltb-true}
use lib.Dec.{eqb, leb, ltb}
use lib.ListN.{length}
use Rattle.sequences.specs.Lists.{alter, snoc, insert_at, count}
use Rattle.sequences.proofs.Counts.{count-append, count_insert, count-one, count_other}
use Rattle.sequences.proofs.Places.{length-alter}
use Rattle.sequences.proofs.Members.{count_all-put, counted-put}
use Rattle.sequences.proofs.Tests.{right}
use Rattle.sequences.proofs.Parts.{none-counted}
use Rattle.model.specs.State.{State}
use Rattle.model.specs.Parts.{thread, with_waits, alter_thread, with_current, with_wait}
use Rattle.model.specs.Words.{is_ready, is_waiting, list_of, leave, enter_tail, enter_ready, rank, enter_by_priority, become_ready, suspend, start_to_wait, wake, re_enter, take_priority}
use Rattle.placed.specs.Placed.{Placed, standing}
use Rattle.placed.proofs.Standing.{leave_gone, leave-placed, alter-placed, unready_placed}
use Rattle.placed.proofs.Leaving.{waiting_list}

-- ---- put on a list

-- to put i on a list by g is to count i once more
abbrev pub Puts : ℕ → (List ℕ → List ℕ) → Type 0
Puts i g = (x : ℕ) (l : List ℕ) → count x (g l) ≡ count x (i ∷ []) + count x l

pub snoc_puts : (i : ℕ) → Puts i (snoc i)
snoc_puts i x l = omega (arith, count-append x l (i ∷ []))

pub insert_puts : (k i : ℕ) → Puts i (insert_at k i)
insert_puts k i x l = count_insert x k i l

module _ {s : State} (w : Placed s) (i : ℕ) where
  still-once : standing i s ≡ 0 → (x : ℕ) → count x (i ∷ []) + standing x s ≤ 1
  still-once off x =
      elim (ℕ_discrete x i) [
        | yes e ↦ rw e (omega (arith, count-one i))
        | no n ↦ omega (arith, count_other x i n, w.once x)
      ]

  still-known : i < 16 → (x : ℕ) → 16 ≤ x → count x (i ∷ []) + standing x s ≡ 0
  still-known below x h = let n : (x ≡ i → ⊥) = λ e. omega arith in omega (arith, count_other x i n, w.known x h)

-- on the list of number j
module _ (i j : ℕ) (g : List ℕ → List ℕ) (puts : Puts i g) (s : State) (within : j < 18) (w : Placed s) where
  pub put-standing : (x : ℕ) → standing x (with_waits (alter j g s.waits) s) ≡ count x (i ∷ []) + standing x s
  put-standing x = omega (arith, count_all-put i g puts x j s.waits (omega (arith, w.waits)))

  pub put-placed : i < 16 → standing i s ≡ 0 → Placed (with_waits (alter j g s.waits) s)
  put-placed below off =
      record {
        threads = w.threads;
        ready = w.ready;
        waits = length-alter j g s.waits ∙ w.waits;
        once = λ x. rw (put-standing x) (still-once w i off x);
        known = λ x h. put-standing x ∙ still-known w i below x h;
        level = w.level;
        priorities = w.priorities;
      }

pub enter_tail-placed : (j i : ℕ) (s : State) → j < 18 → i < 16 → standing i s ≡ 0 → Placed s → Placed (enter_tail j i s)
unfolding enter_tail
enter_tail-placed j i s within below off w = put-placed i j (snoc i) (snoc_puts i) s within w below off

pub enter_by_priority-placed : (j i : ℕ) (s : State) → j < 18 → i < 16 → standing i s ≡ 0 → Placed s → Placed (enter_by_priority j i s)
unfolding enter_by_priority
enter_by_priority-placed j i s within below off w = put-placed i j (insert_at (rank j i s) i) (insert_puts (rank j i s) i) s within w below off

-- on the ready list of its current priority
pub enter_ready-standing : (i : ℕ) (s : State) → Placed s → (x : ℕ) → standing x (enter_ready i s) ≡ count x (i ∷ []) + standing x s
unfolding enter_ready
enter_ready-standing i s w x =
    let h : (thread i s).current < length s.ready = omega (arith, w.ready, w.priorities i) in
    omega (arith, count_all-put i (snoc i) (snoc_puts i) x (thread i s).current s.ready h)

pub enter_ready-placed : (i : ℕ) (s : State) → i < 16 → standing i s ≡ 0 → Placed s → Placed (enter_ready i s)
unfolding enter_ready
enter_ready-placed i s below off w =
    record {
      threads = w.threads;
      ready = length-alter (thread i s).current (snoc i) s.ready ∙ w.ready;
      waits = w.waits;
      once = λ x. rw (enter_ready-standing i s w x) (still-once w i off x);
      known = λ x h. enter_ready-standing i s w x ∙ still-known w i below x h;
      level = λ p x h.
          elim (counted-put i (snoc i) (snoc_puts i) x (thread i s).current p s.ready h) [
            | inl there ↦ w.level p x there
            | inr own ↦ rw (own.0, own.1)
          ];
      priorities = w.priorities;
    }

-- ---- words that leave and enter

pub become_ready-placed : (i : ℕ) (s : State) → i < 16 → Placed s → Placed (become_ready i s)
unfolding become_ready
become_ready-placed i s below w = enter_ready-placed i (leave i s) below (leave_gone i s) (leave-placed i s w)

pub start_to_wait-placed : (j i limit mask mode : ℕ) (s : State) → j < 18 → i < 16 → Placed s → Placed (start_to_wait j i limit mask mode s)
unfolding suspend start_to_wait
start_to_wait-placed j i limit mask mode s within below w =
    let g = with_wait limit 0 mask mode in
    let u = alter_thread i g s in
    enter_by_priority-placed j i (suspend i limit mask mode s) within below (leave_gone i u) (leave-placed i u (alter-placed i g s (λ t. refl) w))

pub wake-placed : (i result : ℕ) (s : State) → i < 16 → Placed s → Placed (wake i result s)
unfolding wake
wake-placed i result s below w =
    become_ready-placed i (alter_thread i (with_wait 0 result 0 0) s) below (alter-placed i (with_wait 0 result 0 0) s (λ t. refl) w)

module _ (i p : ℕ) (s : State) (below : i < 16) (level : p < 8) (w : Placed s) where
  -- the record changes as if the thread had left before
  left-placed : Placed (leave i (alter_thread i (with_current p) s))
  unfolding leave
  left-placed = unready_placed i (with_current p) (leave i s) level (omega (arith, leave_gone i s)) (leave-placed i s w)

  left-off : standing i (leave i (alter_thread i (with_current p) s)) ≡ 0
  left-off = leave_gone i (alter_thread i (with_current p) s)

  re_enter-placed : Placed (re_enter i (alter_thread i (with_current p) s))
  unfolding re_enter become_ready
  re_enter-placed = by_place (is_ready i s) (is_waiting i s) refl refl
    where
      by_place : (ready waiting : Bool) → is_ready i s ≡ ready → is_waiting i s ≡ waiting
          → Placed
          (cond ready (enter_ready i (leave i (alter_thread i (with_current p) s)))
          (cond waiting (enter_by_priority (list_of i s) i (leave i (alter_thread i (with_current p) s))) (alter_thread i (with_current p) s)))
      by_place true waiting r q = enter_ready-placed i (leave i (alter_thread i (with_current p) s)) below left-off left-placed
      by_place false true r q =
          enter_by_priority-placed (list_of i s) i (leave i (alter_thread i (with_current p) s))
          (ltb-true (list_of i s) 18 (right (leb 2 (list_of i s)) (ltb (list_of i s) 18) (sym (waiting_list w i (list_of i s) refl) ∙ q)))
          below left-off left-placed
      by_place false false r q =
          unready_placed i (with_current p) s level
          (none-counted i s.ready r) w

  pub take_priority-placed : Placed (take_priority i p s)
  unfolding take_priority
  take_priority-placed = by_test (eqb (thread i s).current p)
    where
      by_test : (same : Bool) → Placed (cond same s (re_enter i (alter_thread i (with_current p) s)))
      by_test true = w
      by_test false = re_enter-placed
