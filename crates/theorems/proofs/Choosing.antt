-- Choosing: what it gives is sound where all but the choice was in order, and choosing twice is choosing once.
use mathlib.Core.Path.{◌≡◌, refl, sym, ◌∙◌, subst}
use mathlib.Core.Bool.{Bool, true, false, cond, not, ◌&&◌, ◌||◌}
use mathlib.Core.Logic.{◌⊎◌, inl, inr}
use Prim.Native.Nat.{ℕ, ◌<◌}
use native.Mathlib.Omega.{arith}
use borrow.Author.Tests.{eqb-true, eq-eqb}
use lib.Dec.{eqb}
use Rattle.sequences.specs.Lists.{count_all}
use Rattle.sequences.proofs.Tests.{both, left, right, or_right}
use Rattle.sequences.proofs.Bounds.{all_zero-at}
use Rattle.sequences.proofs.Parts.{any_counted, counted_any}
use Rattle.sequences.proofs.Highest.{last_head}
use Rattle.model.specs.State.{State, scheduling_on, nobody}
use Rattle.model.specs.Parts.{thread, with_chosen, alter_thread, with_left, refilled}
use Rattle.model.specs.Ranges.{fits_16}
use Rattle.model.specs.Words.{is_ready, choice, choose}
use Rattle.model.specs.Sound.{thread_in_range, thread_numbers, zero_thread, sound_but_choice, choice_fits, sound}
use Rattle.theorems.specs.Lawful.{Lawful, Stands, Steady, Unchosen}
use Rattle.theorems.proofs.Fits.{fits-quantum, range}
use Rattle.theorems.proofs.Clauses.{sound-lawful}
use Rattle.theorems.proofs.Soundness.{lawful-sound}
use Rattle.theorems.proofs.Records.{chosen-lawful}
use Rattle.theorems.proofs.Keeping.{altered_lawful}

-- ---- a sound table

pub sound_steady : (s : State) → sound s ≡ true → Steady s
unfolding sound choice_fits
sound_steady s whole =
    record {
      lawful = sound-lawful s (left (sound_but_choice s) (choice_fits s) whole);
      stands = by_scheduling (scheduling_on s) (right (sound_but_choice s) (choice_fits s) whole);
    }
  where
    by_name : (b : Bool) → eqb s.chosen nobody ≡ b → b || is_ready s.chosen s ≡ true → Stands s
    by_name true e h = inl (eqb-true s.chosen nobody e)
    by_name false e h = inr (any_counted s.chosen s.ready h)

    by_scheduling : (b : Bool) → cond b (eqb s.chosen (choice s)) (eqb s.chosen nobody || is_ready s.chosen s) ≡ true → Stands s
    by_scheduling true e =
        subst (λ (n : ℕ). (n ≡ nobody) ⊎ (0 < count_all n s.ready)) (sym (eqb-true s.chosen (choice s) e)) (last_head s.ready nobody)
    by_scheduling false e = by_name (eqb s.chosen nobody) refl e

pub chosen-choice : (s : State) → sound s ≡ true → scheduling_on s ≡ true → s.chosen ≡ choice s
unfolding sound choice_fits
chosen-choice s whole on = eqb-true s.chosen (choice s) (rw on at (right (sound_but_choice s) (choice_fits s) whole))

-- ---- choosing

-- with scheduling on or not, the choice being the one before or not
abbrev picked : Bool → Bool → State → State
picked on same s = cond (on && not same) (with_chosen (choice s) (alter_thread (choice s) refilled s)) s

module _ (s : State) (w : Lawful nobody s) where
  -- who becomes the choice has its quantum anew; nobody has none
  renewed : Lawful nobody (alter_thread (choice s) refilled s)
  unfolding thread_in_range
  renewed =
      altered_lawful nobody c refilled s w
      (fits-quantum (w.threads c) (thread c s).quantum (thread c s).quantum most most (omega arith) (λ h. h) zeros) refl refl refl refl refl refl (λ h e. e)
    where
      c : ℕ
      c = choice s

      most : fits_16 (thread c s).quantum ≡ true
      most = range (w.threads c) 3

      zeros : (thread c s).created ≡ 0 → zero_thread (refilled (thread c s)) ≡ true
      zeros none =
          let zero = (w.threads c).absent none in
          let q = all_zero-at (thread_numbers (thread c s)) 3 zero in
          let l = all_zero-at (thread_numbers (thread c s)) 4 zero in
          subst (λ (n : ℕ). zero_thread (with_left n (thread c s)) ≡ true) (l ∙ sym q) zero

  pub choose-lawful : Lawful nobody (choose s)
  unfolding choose
  choose-lawful = by_test (scheduling_on s && not (eqb (choice s) s.chosen))
    where
      by_test : (b : Bool) → Lawful nobody (cond b (with_chosen (choice s) (alter_thread (choice s) refilled s)) s)
      by_test true = chosen-lawful nobody (alter_thread (choice s) refilled s) renewed (choice s)
      by_test false = w

-- with scheduling on it is the choice, with scheduling off it is as it was
pub choose-fits : (s : State) → (scheduling_on s ≡ false → Stands s) → choice_fits (choose s) ≡ true
unfolding choose choice_fits
choose-fits s stands = by_scheduling (scheduling_on s) refl (eqb (choice s) s.chosen) refl
  where
    standing_now : Stands s → eqb s.chosen nobody || is_ready s.chosen s ≡ true
    standing_now (inl e) = rw (eq-eqb s.chosen nobody e)
    standing_now (inr h) = or_right (eqb s.chosen nobody) (is_ready s.chosen s) (counted_any s.chosen s.ready h)

    by_scheduling : (a : Bool) → scheduling_on s ≡ a → (b : Bool) → eqb (choice s) s.chosen ≡ b
        → cond (scheduling_on (picked a b s)) (eqb (picked a b s).chosen (choice (picked a b s)))
        (eqb (picked a b s).chosen nobody || is_ready (picked a b s).chosen (picked a b s)) ≡ true
    by_scheduling true on true same = rw on (eq-eqb s.chosen (choice s) (sym (eqb-true (choice s) s.chosen same)))
    by_scheduling true on false other = rw on (eq-eqb (choice s) (choice s) refl)
    by_scheduling false off b e = rw off (standing_now (stands off))

pub choose-sound : (s : State) → Unchosen s → sound (choose s) ≡ true
unfolding sound
choose-sound s u = both (lawful-sound (choose s) (choose-lawful s u.lawful)) (choose-fits s u.stands)

pub choose_twice : (s : State) → choose (choose s) ≡ choose s
unfolding choose
choose_twice s = by_test (scheduling_on s) refl (eqb (choice s) s.chosen) refl
  where
    by_test : (a : Bool) → scheduling_on s ≡ a → (b : Bool) → eqb (choice s) s.chosen ≡ b
        → cond (scheduling_on (picked a b s) && not (eqb (choice (picked a b s)) (picked a b s).chosen))
        (with_chosen (choice (picked a b s)) (alter_thread (choice (picked a b s)) refilled (picked a b s))) (picked a b s) ≡ picked a b s
    by_test true on true same = rw (on, same)
    by_test true on false other = rw (on, eq-eqb (choice s) (choice s) refl)
    by_test false off b e = rw off
