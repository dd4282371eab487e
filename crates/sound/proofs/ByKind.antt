-- What the list of a thread asks of it, by the kinds of lists: ready, asleep, stopped, waiting, waiting for flags. What each kind asks is told as plain
-- tests, joined from the right.
use mathlib.Core.Path.{◌≡◌, ap}
use mathlib.Core.Bool.{Bool, true, cond, not, ◌&&◌, and_assoc}
use mathlib.Core.List.{List, [], ◌∷◌}
use Prim.Native.Nat.{ℕ, suc, ◌-◌, ◌<◌, ◌≤◌}
use native.Mathlib.Decide.{ℕ_discrete, dec_lt}
use native.Mathlib.Omega.{arith}
use borrow.Author.Tests.{ne_eqb, lt-ltb, le-ltb}
use lib.Dec.{eqb, leb, ltb}
use Rattle.sequences.specs.Bytes.{Each}
use Rattle.sequences.proofs.Tests.{both, left, right}
use Rattle.model.specs.declared.tables.Thread.{Thread}
use Rattle.model.specs.Parts.{thread, flag_object}
use Rattle.model.specs.Words.{holds}
use Rattle.model.specs.Layout.{view}
use Rattle.sound.specs.Asked.{idle, asleep, behind_previous, awaits, waits_right, rests_right}

-- ---- tests joined from the right

abbrev pub nested : Bool → List Bool → Bool
nested a [] = a
nested a (b ∷ bs) = a && nested b bs

abbrev pub Passed : List Bool → Type 0
Passed bs = Each (λ (b : Bool). b ≡ true) bs

pub nested_each : (a : Bool) (bs : List Bool) → nested a bs ≡ true → Passed (a ∷ bs)
nested_each a [] e = (e, tt)
nested_each a (b ∷ bs) e = (left a (nested b bs) e, nested_each b bs (right a (nested b bs) e))

pub each_nested : (a : Bool) (bs : List Bool) → Passed (a ∷ bs) → nested a bs ≡ true
each_nested a [] h = h.0
each_nested a (b ∷ bs) h = both h.0 (each_nested b bs h.1)

-- ---- the kinds of lists

pub by_kind : {Q : Type 0} (j : ℕ) → (j < 8 → Q) → (j ≡ 8 → Q) → (j ≡ 9 → Q) → (10 ≤ j → j < 22 → Q) → (22 ≤ j → Q) → Q
by_kind j ready asleep stopped waiting flags =
    elim (dec_lt j 8) [
      | yes h ↦ ready h
      | no h ↦
          elim (ℕ_discrete j 8) [
            | yes s ↦ asleep s
            | no s ↦
                elim (ℕ_discrete j 9) [
                  | yes d ↦ stopped d
                  | no d ↦
                      elim (dec_lt j 22) [
                        | yes k ↦ waiting (omega arith) k
                        | no k ↦ flags (omega arith)
                      ]
                ]
          ]
    ]

module _ (j i : ℕ) (b : List ℕ) where
  abbrev t : Thread
  t = thread i (view b)

  abbrev pub rest : Bool
  rest = cond (ltb j 8) (eqb t.current j && idle t) (rests_right (j - 8) i b)

  abbrev pub idle_tests : List Bool
  idle_tests = leb t.result 2 ∷ eqb t.mask 0 ∷ eqb t.mode 0 ∷ []

  abbrev pub asleep_tests : List Bool
  asleep_tests = eqb t.mask 0 ∷ eqb t.mode 0 ∷ eqb t.result 0 ∷ []

  abbrev pub waiting_tests : List Bool
  waiting_tests = eqb t.result 0 ∷ eqb t.mask 0 ∷ eqb t.mode 0 ∷ []

  abbrev pub flags_tests : List Bool
  flags_tests =
      eqb t.result 0 ∷ ltb 0 t.mask ∷ leb t.mode 3 ∷ not (holds t.mode t.mask (flag_object (suc j - 23) (view b)).word) ∷ []

  pub ready_asks : j < 8 → rest ≡ nested (eqb t.current j) (eqb t.limit 0 ∷ idle_tests)
  unfolding idle
  ready_asks h = rw (lt-ltb j 8 h)

  pub asleep_asks : j ≡ 8 → rest ≡ nested (ltb 0 t.limit) asleep_tests
  unfolding asleep rests_right
  asleep_asks e = rw e (ap (λ (x : Bool). ltb 0 t.limit && x) (and_assoc (eqb t.mask 0) (eqb t.mode 0) (eqb t.result 0)))

  pub stopped_asks : j ≡ 9 → rest ≡ nested (eqb t.limit 0) idle_tests
  unfolding idle rests_right
  stopped_asks e = rw e

  pub waiting_asks : 10 ≤ j → j < 22 → rest ≡ nested (behind_previous i b) waiting_tests
  unfolding rests_right waits_right
  waiting_asks h k =
      rw (le-ltb j 8 (omega arith), ne_eqb (j - 8) 1 (λ e. omega arith), le-ltb (j - 8) 2 (omega arith), lt-ltb (j - 8) 14 (omega arith))

  pub flags_asks : 22 ≤ j → rest ≡ nested (behind_previous i b) flags_tests
  unfolding rests_right waits_right awaits
  flags_asks h =
      let object : j - 8 - 14 ≡ suc j - 23 = omega arith in
      rw (le-ltb j 8 (omega arith), ne_eqb (j - 8) 1 (λ e. omega arith), le-ltb (j - 8) 2 (omega arith), le-ltb (j - 8) 14 (omega arith), object)
