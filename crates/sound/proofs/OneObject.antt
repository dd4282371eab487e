-- What a pass asks of one semaphore, mutex, flag object or timer is what the clauses of soundness ask of it, where its numbers fit their bytes: by
-- cases on whether it is there or in use, and then by truth tables.
use mathlib.Core.Path.{◌≡◌, refl, sym, ◌∙◌}
use mathlib.Core.Bool.{Bool, true, false, not, ◌&&◌, and-true, and-false, and_comm, or-true}
use mathlib.Core.List.{[], ◌∷◌}
use Prim.Native.Nat.{ℕ, zero, suc, ◌+◌, ◌<◌}
use native.Mathlib.Decide.{ℕ_discrete}
use native.Mathlib.Omega.{arith}
use borrow.Author.Tests.{eqb-true, ltb-true, eq-eqb, ne_eqb, lt-ltb, le-ltb, le-leb, lt-leb}
use lib.Dec.{eqb, leb, ltb}
use lib.ListN.{get_or, drop}
use Rattle.sequences.specs.Lists.{all_true, all_zero}
use Rattle.sequences.proofs.RecordsLaid.{Fits}
use Rattle.sequences.proofs.Bounds.{all_zero-at}
use Rattle.model.specs.declared.tables.Semaphore.{Semaphore}
use Rattle.model.specs.declared.tables.Mutex.{Mutex}
use Rattle.model.specs.declared.tables.Flags.{Flags}
use Rattle.model.specs.declared.tables.Timer.{Timer}
use Rattle.model.specs.State.{State, thread_count, priority_count, mutex_list}
use Rattle.model.specs.Ranges.{◌implies◌, is_bit, names_object, action_in_range}
use Rattle.model.specs.Sound.{semaphore_in_range, mutex_in_range, flags_in_range, timer_in_range, timer_numbers, zero_timer}
use Rattle.model.specs.Layout.{semaphores_at, mutexes_at, flags_at, timers_at}
use Rattle.sound.specs.Asked.{semaphore_asked, owner_asked, mutex_asked, flags_asked, timer_asked}

-- what the tests of a number say: 0, 1 or more
data Bit (n : ℕ) : Type 0 where
  none : eqb n 0 ≡ true → eqb n 1 ≡ false → leb n 1 ≡ true → Bit n
  one : eqb n 0 ≡ false → eqb n 1 ≡ true → leb n 1 ≡ true → Bit n
  more : eqb n 0 ≡ false → eqb n 1 ≡ false → leb n 1 ≡ false → Bit n

bit_of : (n : ℕ) → Bit n
bit_of zero = none refl refl refl
bit_of (suc zero) = one refl refl refl
bit_of (suc (suc n)) =
    more (ne_eqb (suc (suc n)) 0 (λ e. omega arith)) (ne_eqb (suc (suc n)) 1 (λ e. omega arith)) (lt-leb (suc (suc n)) 1 (omega arith))

-- ---- semaphores

semaphore-absent : (z m le w : Bool) → (z ≡ true → le ≡ true)
    → z && (m && not w) ≡ (w implies z) && (le && ((z && (m && true)) && not w && true))
semaphore-absent true true le true h = rw (h refl)
semaphore-absent true true le false h = rw (h refl)
semaphore-absent true false le true h = rw (h refl)
semaphore-absent true false le false h = rw (h refl)
semaphore-absent false m le true h = refl
semaphore-absent false m le false h = simp and-false

pub semaphore_tests : (x : Semaphore) (waited : Bool) → Fits semaphores_at x
    → semaphore_asked x waited
    ≡ semaphore_in_range x
    && all_true
    ((waited implies eqb x.count 0)
    ∷ leb x.count x.maximum
    ∷ (eqb x.created 0 implies all_zero (x.count ∷ x.maximum ∷ []) && not waited)
    ∷ [])
unfolding semaphore_asked semaphore_in_range
semaphore_tests x waited fits =
    let z = eqb x.count 0 in
    let le = leb x.count x.maximum in
    let count = le-leb x.count 65535 (omega arith) in
    let maximum = le-leb x.maximum 65535 (omega arith) in
    elim (bit_of x.created) [
      | none a b c ↦
          rw (a, b, c, count, maximum)
          (semaphore-absent z (eqb x.maximum 0) le waited (λ e. le-leb x.count x.maximum (omega (arith, eqb-true x.count 0 e))))
      | one a b c ↦ rw (a, b, c, count, maximum, and-true le, and_comm le (waited implies z))
      | more a b c ↦ rw (a, b, c)
    ]

-- ---- flag objects

pub flags_tests : (x : Flags) (waited : Bool) → Fits flags_at x
    → flags_asked x waited ≡ flags_in_range x && all_true ((eqb x.created 0 implies eqb x.word 0 && not waited) ∷ [])
unfolding flags_asked flags_in_range
flags_tests x waited fits =
    let word = le-leb x.word 65535 (omega arith) in
    elim (bit_of x.created) [
      | none a b c ↦ rw (a, c, word) (sym (and-true (eqb x.word 0 && not waited)))
      | one a b c ↦ rw (a, b, c, word)
      | more a b c ↦ rw (a, b, c)
    ]

-- ---- timers

timer-unused : (z bit le action : Bool) → (z ≡ true → (bit ≡ true) × ((le ≡ true) × (action ≡ true))) → z ≡ bit && (le && (z && (action && true)))
timer-unused true bit le action h = rw ((h refl).0, (h refl).1.0, (h refl).1.1)
timer-unused false bit le action h = simp and-false

timer_used : (bit le names action : Bool) → le && (bit && (action && names)) ≡ bit && (le && ((names && action) && true))
timer_used true le names action = rw (and-true (names && action), and_comm names action)
timer_used false le names action = and-false le

pub timer_tests : (t : Timer) (s : State) → Fits timers_at t
    → timer_asked t s
    ≡ timer_in_range t
    && all_true
    (leb t.left t.period
    ∷ (eqb t.period 0 implies zero_timer t)
    ∷ (names_object t.kind t.object s && action_in_range t.kind t.object t.mask)
    ∷ [])
unfolding timer_asked timer_in_range
timer_tests t s fits =
    let names = names_object t.kind t.object s in
    let action = action_in_range t.kind t.object t.mask in
    let bit = is_bit t.repeat in
    let le = leb t.left t.period in
    let period = le-leb t.period 4294967295 (omega arith) in
    let left = le-leb t.left 4294967295 (omega arith) in
    let count = le-leb t.count 4294967295 (omega arith) in
    elim (bit_of t.period) [
      | none a b c ↦ rw (a, period, left, count, and-true bit) (timer-unused (all_zero (drop 1 (timer_numbers t))) bit le (names && action) unused)
      | one a b c ↦ rw (a, period, left, count, and-true bit) (timer_used bit le names action)
      | more a b c ↦ rw (a, period, left, count, and-true bit) (timer_used bit le names action)
    ]
  where
    -- the test of its period is gone from that of its zeros
    unused : all_zero (drop 1 (timer_numbers t)) ≡ true
        → (is_bit t.repeat ≡ true)
        × ((leb t.left t.period ≡ true)
        × (names_object t.kind t.object s && action_in_range t.kind t.object t.mask ≡ true))
    unused e =
        let zero : (k : ℕ) → get_or (drop 1 (timer_numbers t)) k 0 ≡ 0 = λ k. all_zero-at (drop 1 (timer_numbers t)) k e in
        (rw (zero 1), (rw (zero 0) (le-leb 0 t.period (omega arith)), rw (zero 2, zero 3, zero 4)))

-- ---- mutexes

mutex-unowned : (bit lt o w absent : Bool) → (o ≡ true → lt ≡ true)
    → bit && (o && not w) ≡ bit && lt && true && (o && ((w implies false) && ((absent implies (o && true) && not w) && true)))
mutex-unowned true lt true true absent h = simp and-false
mutex-unowned true lt true false absent h = rw (h refl, or-true (not absent))
mutex-unowned true lt false w absent h = simp and-false
mutex-unowned false lt o w absent h = refl

mutex-absent : (lt w there other o : Bool) → false ≡ lt && true && ((w implies true) && (there && (other && ((o && false) && not w && true))))
mutex-absent lt w there other o = simp and-false

mutex-owned : (lt w there other : Bool) → lt && (there && other) ≡ lt && true && ((w implies true) && (there && (other && true)))
mutex-owned lt w there other = simp (or-true, and-true)

pub mutex_tests : (o : ℕ) (x : Mutex) (waited there own-waiter : Bool) (mark : ℕ) → Fits mutexes_at x
    → (x.owner < thread_count → there ≡ not (eqb mark 0))
    → (x.owner < thread_count → own-waiter ≡ eqb mark (suc (priority_count + mutex_list o)))
    → mutex_asked o x waited mark
    ≡ mutex_in_range x
    && all_true
    ((eqb x.depth 0 implies eqb x.owner 0)
    ∷ (waited implies ltb 0 x.depth)
    ∷ (ltb 0 x.depth implies there)
    ∷ (ltb 0 x.depth implies not own-waiter)
    ∷ (eqb x.created 0 implies all_zero (x.owner ∷ x.depth ∷ []) && not waited)
    ∷ [])
unfolding mutex_asked mutex_in_range owner_asked
mutex_tests o x waited there own-waiter mark fits p q =
    let lt = ltb x.owner thread_count in
    let depth = le-leb x.depth 255 (omega arith) in
    elim (ℕ_discrete x.depth 0) [
      | yes e ↦
          rw (depth, eq-eqb x.depth 0 e, le-ltb 0 x.depth (omega arith))
          (mutex-unowned (is_bit x.created) lt (eqb x.owner 0) waited (eqb x.created 0)
          (λ h. lt-ltb x.owner thread_count (omega (arith, eqb-true x.owner 0 h))))
      | no d ↦
          rw (depth, ne_eqb x.depth 0 d, lt-ltb 0 x.depth (omega arith))
          elim (bit_of x.created) [
            | none a b c ↦ rw (a, b, c) (mutex-absent lt waited there (not own-waiter) (eqb x.owner 0))
            | one a b c ↦ rw (a, b, c) (owned lt refl ∙ mutex-owned lt waited there (not own-waiter))
            | more a b c ↦ rw (a, b, c)
          ]
    ]
  where
    owned : (lt : Bool) → ltb x.owner thread_count ≡ lt
        → lt && (not (eqb mark 0) && not (eqb mark (suc (priority_count + mutex_list o)))) ≡ lt && (there && not own-waiter)
    owned true e = let h = ltb-true x.owner thread_count e in rw (p h, q h)
    owned false e = refl
