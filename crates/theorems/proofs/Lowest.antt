-- Of answers listed by rising numbers the first that is due is the lowest that is.
use mathlib.Core.Path.{◌≡◌, refl, sym, ◌∙◌}
use mathlib.Core.Bool.{Bool, true, false, cond, not, ◌&&◌, and-false, true≢false, ◌||◌}
use mathlib.Core.List.{List, [], ◌∷◌}
use Prim.Native.Nat.{ℕ, ◌<◌, ◌≤◌}
use native.Mathlib.Decide.{ℕ_discrete, dec_lt}
use native.Mathlib.Omega.{arith}
use borrow.Author.Tests.{eqb-true, eq-eqb, ne_eqb, ltb-true, not-true}
use lib.Dec.{eqb, ltb}
use Rattle.sequences.specs.Lists.{every_below}
use Rattle.sequences.proofs.Tests.{both, left, right, same_truth, every_below-at, every_below-from, or_right}
use Rattle.model.specs.Answers.{Given, number, first-due}
use Rattle.model.specs.Promises.{applies_in}

-- each number above the one before it, the first above m
abbrev pub rising : ℕ → List Given → Bool
rising m [] = true
rising m (g ∷ gs) = ltb m (number g.answer) && rising (number g.answer) gs

-- nothing applies at a number up to m
pub below_rising : (gs : List Given) (m n : ℕ) → rising m gs ≡ true → n ≤ m → applies_in n gs ≡ false
below_rising [] m n up h = refl
below_rising (g ∷ gs) m n up h =
    let low = ltb-true m (number g.answer) (left (ltb m (number g.answer)) (rising (number g.answer) gs) up) in
    rw (ne_eqb (number g.answer) n (λ e. absurd (omega arith)))
    (below_rising gs (number g.answer) n (right (ltb m (number g.answer)) (rising (number g.answer) gs) up) (omega arith))

-- the answer of the first that is due, by its number n: nothing applies below it; it applies itself, or is 0 and nothing does
pub record Lowest (gs : List Given) (n : ℕ) : Type 0 where
  pub here : 0 < n → applies_in n gs ≡ true
  pub below : (k : ℕ) → k < n → applies_in k gs ≡ false
  pub done : n ≡ 0 → (k : ℕ) → applies_in k gs ≡ false

pub first_lowest : (gs : List Given) (m : ℕ) → rising m gs ≡ true → Lowest gs (number (first-due gs))
first_lowest [] m up = record { here = λ h. absurd (omega arith); below = λ k h. refl; done = λ e k. refl }
first_lowest (g ∷ gs) m up = by_due g.due (first_lowest gs n rest)
  where
    n : ℕ
    n = number g.answer

    rest : rising n gs ≡ true
    rest = right (ltb m n) (rising n gs) up

    above : m < n
    above = ltb-true m n (left (ltb m n) (rising n gs) up)

    by_due : (b : Bool) → Lowest gs (number (first-due gs)) → Lowest (record { answer = g.answer; due = b } ∷ gs) (number (cond b g.answer (first-due gs)))
    by_due true low =
        record {
          here = λ h. rw (eq-eqb n n refl);
          below = λ k h. rw (ne_eqb n k (λ e. absurd (omega arith))) (below_rising gs n k rest (omega arith));
          done = λ e k. absurd (omega (arith, above));
        }
    by_due false low =
        record {
          here = λ h. rw (and-false (eqb n (number (first-due gs)))) (low.here h);
          below = λ k h. rw (and-false (eqb n k)) (low.below k h);
          done = λ e k. rw (and-false (eqb n k)) (low.done e k);
        }

-- it is n exactly where a row n applies and none below does; and 0 exactly where none of the first m does, m above all numbers
module _ {gs : List Given} {a : ℕ} (low : Lowest gs a) where
  pub lowest_exactly : (n : ℕ) → 0 < n → eqb a n ≡ applies_in n gs && every_below n (λ k. not (applies_in k gs))
  lowest_exactly n some =
      same_truth (eqb a n) (applies_in n gs && every_below n (λ k. not (applies_in k gs))) (λ e. found (eqb-true a n e))
      (λ e.
      found_back (left (applies_in n gs) (every_below n (λ k. not (applies_in k gs))) e)
      (right (applies_in n gs) (every_below n (λ k. not (applies_in k gs))) e))
    where
      found : a ≡ n → applies_in n gs && every_below n (λ k. not (applies_in k gs)) ≡ true
      found e =
          let here : applies_in n gs ≡ true = rw (← e) (low.here (omega arith)) in
          both here
          (every_below-from (λ k. not (applies_in k gs)) n (λ k h. rw (low.below k (omega arith))))

      found_back : applies_in n gs ≡ true → every_below n (λ k. not (applies_in k gs)) ≡ true → eqb a n ≡ true
      found_back here none =
          elim (ℕ_discrete a n) [
            | yes e ↦ eq-eqb a n e
            | no e ↦ absurd (elsewhere here none e (ℕ_discrete a 0) (dec_lt a n))
          ]
        where
          elsewhere : applies_in n gs ≡ true → every_below n (λ k. not (applies_in k gs)) ≡ true → (a ≡ n → ⊥) → Dec (a ≡ 0) → Dec (a < n) → ⊥
          elsewhere here none e (yes z) lower = true≢false (sym here ∙ low.done z n)
          elsewhere here none e (no z) (yes h) =
              true≢false (sym (low.here (omega arith)) ∙ not-true (applies_in a gs) (every_below-at (λ k. not (applies_in k gs)) n a h none))
          elsewhere here none e (no z) (no h) = true≢false (sym here ∙ low.below n (omega arith))

  pub lowest_done : (m : ℕ) → a < m → eqb a 0 ≡ every_below m (λ k. not (applies_in k gs))
  lowest_done m most =
      same_truth (eqb a 0) (every_below m (λ k. not (applies_in k gs)))
      (λ e. every_below-from (λ k. not (applies_in k gs)) m (λ k h. rw (low.done (eqb-true a 0 e) k)))
      (λ e.
      elim (ℕ_discrete a 0) [
        | yes z ↦ eq-eqb a 0 z
        | no z ↦ absurd (true≢false (sym (low.here (omega arith)) ∙ not-true (applies_in a gs) (every_below-at (λ k. not (applies_in k gs)) m a most e)))
      ])

  -- none of 1 to 9 applies exactly where it is 0 or 10, if it is at most that
  pub lowest_accepted : a ≤ 10 → eqb a 0 || eqb a 10 ≡ every_below 10 (λ k. not (applies_in k gs))
  lowest_accepted most = same_truth (eqb a 0 || eqb a 10) (every_below 10 (λ k. not (applies_in k gs))) none back
    where
      none : eqb a 0 || eqb a 10 ≡ true → every_below 10 (λ k. not (applies_in k gs)) ≡ true
      none e = every_below-from (λ k. not (applies_in k gs)) 10 (λ k h. rw (at k h (ℕ_discrete a 0)))
        where
          at : (k : ℕ) → k < 10 → Dec (a ≡ 0) → applies_in k gs ≡ false
          at k h (yes z) = low.done z k
          at k h (no z) = let ten : a ≡ 10 = eqb-true a 10 (rw (ne_eqb a 0 z) at e) in low.below k (omega arith)

      back : every_below 10 (λ k. not (applies_in k gs)) ≡ true → eqb a 0 || eqb a 10 ≡ true
      back e = by_number (ℕ_discrete a 0) (ℕ_discrete a 10)
        where
          by_number : Dec (a ≡ 0) → Dec (a ≡ 10) → eqb a 0 || eqb a 10 ≡ true
          by_number (yes z) d = rw (eq-eqb a 0 z)
          by_number (no z) (yes t) = or_right (eqb a 0) (eqb a 10) (eq-eqb a 10 t)
          by_number (no z) (no t) =
              absurd (true≢false (sym (low.here (omega arith)) ∙ not-true (applies_in a gs) (every_below-at (λ k. not (applies_in k gs)) 10 a (omega arith) e)))
