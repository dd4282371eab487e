-- Fields that stand side by side, asked as one number or each alone, where they fit their bytes: a ready thread's priorities, quantum and left,
-- count and maximum, a timer's action.
use mathlib.Core.Path.{◌≡◌, refl, sym, ◌∙◌}
use mathlib.Core.Bool.{Bool, true, false, ◌&&◌, and-false, and-true}
use Prim.Native.Nat.{ℕ, zero, suc, ◌+◌, ◌*◌, ◌/◌, ◌%◌, ◌<◌, ◌≤◌}
use native.Mathlib.Decide.{ℕ_discrete}
use native.Mathlib.Omega.{arith}
use borrow.Author.Tests.{eqb-true, eq-eqb, ne_eqb, leb-true, le-leb, le-ltb}
use lib.Dec.{eqb, leb, ltb}
use Rattle.sequences.proofs.RecordsLaid.{Fits}
use Rattle.sequences.proofs.Tests.{both, left, right, same_truth, untrue}
use Rattle.model.specs.declared.tables.Thread.{Thread}
use Rattle.model.specs.declared.tables.Semaphore.{Semaphore}
use Rattle.model.specs.declared.tables.Timer.{Timer}
use Rattle.model.specs.State.{State}
use Rattle.model.specs.Ranges.{is_bit, has_semaphore, has_flags, names_object, action_in_range}
use Rattle.model.specs.Layout.{threads_at, semaphores_at, timers_at}
use Rattle.fields.specs.Fields.{standing, quanta, levels, action}
use Rattle.sound.specs.Asked.{action_asked}

-- ---- threads

-- there, and at its base on ready list p, which has the mark suc p
pub level : (t : Thread) → Fits threads_at t → (p : ℕ) → p < 8 → standing t + 65791 ≡ 65792 * suc p
    → (t.created ≡ 1) × (t.base ≡ p) × (t.current ≡ p)
level t fits p h e = (omega (arith, fits), omega (arith, fits), omega (arith, fits))

pub no_quantum : (t : Thread) → eqb (quanta t) 0 ≡ eqb t.left 0 && eqb t.quantum 0
no_quantum t =
    same_truth (eqb (quanta t) 0) (eqb t.left 0 && eqb t.quantum 0)
    (λ e. let h = eqb-true (quanta t) 0 e in both (eq-eqb t.left 0 (omega arith)) (eq-eqb t.quantum 0 (omega arith)))
    (λ e.
    let l = eqb-true t.left 0 (left (eqb t.left 0) (eqb t.quantum 0) e) in
    let q = eqb-true t.quantum 0 (right (eqb t.left 0) (eqb t.quantum 0) e) in
    eq-eqb (quanta t) 0 (omega arith))

-- ---- semaphores

pub within_maximum : (x : Semaphore) → Fits semaphores_at x → leb (levels x % 65536) (levels x / 65536) ≡ leb x.count x.maximum
within_maximum x fits =
    let low : levels x % 65536 ≡ x.count = omega (arith, fits) in
    let high : levels x / 65536 ≡ x.maximum = omega (arith, fits) in
    rw (low, high)

-- ---- timers

-- neither nothing nor a post, and no set of flags
unset : (r k o m : ℕ) (s : State) → (r + 256 * k + 65536 * o + 16777216 * m ≤ 1 → ⊥)
    → ((r + 256 * k + 65536 * o + 16777216 * m) % 65536 / 2 ≡ 128 → ⊥)
    → (k ≡ 2 → ⊥) → false ≡ is_bit r && (action_in_range k o m && names_object k o s)
unset r zero o m s a b c =
    sym
    (untrue (is_bit r && ((eqb o 0 && eqb m 0) && true))
    (λ e.
    let z = left (eqb o 0 && eqb m 0) true (right (is_bit r) ((eqb o 0 && eqb m 0) && true) e) in
    let f = leb-true r 1 (left (is_bit r) ((eqb o 0 && eqb m 0) && true) e) in
    let g = eqb-true o 0 (left (eqb o 0) (eqb m 0) z) in
    let h = eqb-true m 0 (right (eqb o 0) (eqb m 0) z) in
    absurd (a (omega arith))))
unset r (suc zero) o m s a b c =
    sym
    (untrue (is_bit r && (eqb m 0 && has_semaphore o s))
    (λ e. let f = leb-true r 1 (left (is_bit r) (eqb m 0 && has_semaphore o s) e) in absurd (b (omega arith))))
unset r (suc (suc zero)) o m s a b c = absurd (c refl)
unset r (suc (suc (suc k))) o m s a b c = sym (and-false (is_bit r))

module _ (t : Timer) (s : State) where
  pub sets_nothing : (action t ≤ 1 → ⊥) → (action t % 65536 / 2 ≡ 128 → ⊥) → (t.kind ≡ 2 → ⊥) → false ≡ action_asked t s
  sets_nothing = unset t.repeat t.kind t.object t.mask s

  module _ (fits : Fits timers_at t) where
    pub does_nothing : action t ≤ 1 → true ≡ action_asked t s
    does_nothing h =
        let k : t.kind ≡ 0 = omega arith in
        let o : t.object ≡ 0 = omega arith in
        let m : t.mask ≡ 0 = omega arith in
        rw (k, o, m, le-leb t.repeat 1 (omega arith))

    pub posts : action t % 65536 / 2 ≡ 128 → {r : Bool} → r ≡ has_semaphore (action t / 65536) s → r ≡ action_asked t s
    posts h e =
        let k : t.kind ≡ 1 = omega (arith, fits) in
        let b = le-leb t.repeat 1 (omega (arith, fits)) in
        elim (ℕ_discrete t.mask 0) [
          | yes m ↦
              let named : action t / 65536 ≡ t.object = omega (arith, fits) in
              e ∙ rw (named, k, m, b)
          | no m ↦
              let far : 8 ≤ action t / 65536 = omega (arith, fits) in
              e ∙ rw (le-ltb (action t / 65536) 8 far, k, b, ne_eqb t.mask 0 m)
        ]

    pub sets : t.kind ≡ 2 → t.repeat ≤ 1 → {f : Bool} → f ≡ has_flags t.object s → ltb 0 t.mask && f ≡ action_asked t s
    sets k b e = rw (k, e, le-leb t.repeat 1 b, le-leb t.mask 65535 (omega (arith, fits)), and-true (ltb 0 t.mask))
