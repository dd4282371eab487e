-- Waking those of a list whose condition holds, one after another: who is woken changes the record of no other, so that each may be tested
-- when its turn comes.
use mathlib.Core.Path.{◌≡◌, refl, sym, ◌∙◌, ap}
use mathlib.Core.Bool.{Bool, true, false, cond}
use mathlib.Core.List.{List, [], ◌∷◌}
use Prim.Native.Nat.{ℕ, ◌+◌, ◌<◌, ◌≤◌}
use native.Mathlib.Omega.{arith}
use native.Mathlib.Numerals.{add-one}
use borrow.Author.Tests.{eq-eqb}
use lib.ListN.{length, get_or, take, drop, take-append-drop}
use lib.Seq.{drop-cons}
use Rattle.sequences.specs.Lists.{alter, count, only}
use Rattle.sequences.proofs.Places.{alter_other}
use Rattle.sequences.proofs.Counts.{count-append}
use Rattle.model.specs.State.{State, absent_thread}
use Rattle.model.specs.Parts.{thread, alter_thread, with_wait, with_delivered}
use Rattle.model.specs.Words.{leave, enter_ready, become_ready, wake, holds}
use Rattle.model.specs.Effects.{wake_each, met}
use Rattle.placed.specs.Placed.{Placed}
use Rattle.placed.proofs.Standing.{alter-placed}
use Rattle.placed.proofs.Entering.{wake-placed}
use Rattle.theorems.specs.Meeting.{wake_met}

-- ---- one thread

module _ (word i : ℕ) (s : State) where
  wake_met_other : (x : ℕ) → (x ≡ i → ⊥) → thread x (wake_met word i s) ≡ thread x s
  unfolding wake_met wake become_ready enter_ready leave
  wake_met_other x other = by_test (holds (thread i s).mode (thread i s).mask word)
    where
      by_test : (b : Bool) → thread x (cond b (wake i 1 (alter_thread i (with_delivered word) s)) s) ≡ thread x s
      by_test true =
          alter_other (with_wait 0 1 0 0) i (alter i (with_delivered word) s.threads) x absent_thread other
          ∙ alter_other (with_delivered word) i s.threads x absent_thread other
      by_test false = refl

  pub wake_met-placed : i < 16 → Placed s → Placed (wake_met word i s)
  unfolding wake_met
  wake_met-placed below w = by_test (holds (thread i s).mode (thread i s).mask word)
    where
      by_test : (b : Bool) → Placed (cond b (wake i 1 (alter_thread i (with_delivered word) s)) s)
      by_test true = wake-placed i 1 (alter_thread i (with_delivered word) s) below (alter-placed i (with_delivered word) s (λ t. refl) w)
      by_test false = w

-- ---- a list without repetition

only_same : (f g : ℕ → Bool) (l : List ℕ) → ((x : ℕ) → 0 < count x l → f x ≡ g x) → only f l ≡ only g l
only_same f g [] same = refl
only_same f g (y ∷ l) same = rw (same y (rw (eq-eqb y y refl) (omega arith)), only_same f g l (λ x h. same x (omega arith)))

module _ (word : ℕ) where
  met-kept : (i : ℕ) (l : List ℕ) (s : State) → count i l ≡ 0 → met word l s ≡ met word l (wake_met word i s)
  met-kept i l s none =
      only_same (λ x. holds (thread x s).mode (thread x s).mask word)
      (λ x. holds (thread x (wake_met word i s)).mode (thread x (wake_met word i s)).mask word) l
      (λ x h.
      let other : (x ≡ i → ⊥) = λ e. omega (arith, none, rw e at h) in
      rw (wake_met_other word i s x other))

  met-first : (i : ℕ) (l : List ℕ) (s : State) → count i l ≡ 0
      → wake_each word (met word (i ∷ l) s) s ≡ wake_each word (met word l (wake_met word i s)) (wake_met word i s)
  unfolding wake_each wake_met
  met-first i l s none =
      by_test (holds (thread i s).mode (thread i s).mask word)
      ∙ ap (λ (l : List ℕ). wake_each word l (wake_met word i s)) (met-kept i l s none)
    where
      by_test : (b : Bool)
          → wake_each word (cond b (i ∷ met word l s) (met word l s)) s ≡ wake_each word (met word l s) (cond b (wake i 1 (alter_thread i (with_delivered word) s)) s)
      by_test true = refl
      by_test false = refl

  -- what is left to do from place k on, and what is once the one there has had its turn
  pub met_next : (l : List ℕ) (k i : ℕ) (s : State) → get_or l k 0 ≡ i → ((x : ℕ) → count x l ≤ 1) → k < length l
      → wake_each word (met word (drop k l) s) s ≡ wake_each word (met word (drop (k + 1) l) (wake_met word i s)) (wake_met word i s)
  met_next l k i s here once h =
      let e : drop k l ≡ i ∷ drop (k + 1) l = rw (add-one k, ← here) (drop-cons l k 0 h) in
      let parts : count i (take k l) + count i (drop k l) ≡ count i l = sym (count-append i (take k l) (drop k l)) ∙ ap (count i) (take-append-drop k l) in
      let rest : count i (drop (k + 1) l) ≡ 0 = omega (arith, once i, rw (e, eq-eqb i i refl) at parts) in
      ap (λ (m : List ℕ). wake_each word (met word m s) s) e ∙ met-first i (drop (k + 1) l) s rest
