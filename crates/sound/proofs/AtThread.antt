-- What is asked of one thread by its mark, and what the clauses of soundness come to for one thread that has this mark: the same, kind of list by kind
-- of list.
use mathlib.Core.Path.{◌≡◌, refl}
use mathlib.Core.Bool.{true, cond, not, ◌&&◌}
use mathlib.Core.List.{List, [], ◌∷◌}
use Prim.Native.Nat.{ℕ, zero, suc, ◌-◌, ◌<◌, ◌≤◌}
use native.Mathlib.Omega.{arith}
use borrow.Author.Tests.{eqb-true, leb-true, ltb-true, eq-eqb, le-leb, lt-ltb, le-ltb}
use lib.Dec.{eqb, ltb, eqb-suc-zero}
use Rattle.sequences.specs.Lists.{all_zero}
use Rattle.sequences.specs.Bytes.{Each}
use Rattle.sequences.proofs.Tests.{both, left, right, or_right}
use Rattle.model.specs.declared.tables.Thread.{Thread}
use Rattle.model.specs.State.{State}
use Rattle.model.specs.Parts.{thread, flag_object}
use Rattle.model.specs.Words.{owns_any, holds}
use Rattle.model.specs.Sound.{thread_numbers, zero_thread}
use Rattle.model.specs.Layout.{view}
use Rattle.sound.specs.Asked.{next_link, previous_link, nothing_of, priority_fits, quantum_fits, behind_previous, stands_right, thread_asked}
use Rattle.sound.proofs.ByKind.{Passed, nested_each, each_nested, by_kind, rest, idle_tests, asleep_tests, waiting_tests, flags_tests}
use Rattle.sound.proofs.ByKind.{ready_asks, asleep_asks, stopped_asks, waiting_asks, flags_asks}

-- ---- the facts

-- a thread's numbers by its mark
pub record Rests (m : ℕ) (t : Thread) : Type 0 where
  pub ready : 0 < m → m ≤ 8 → suc t.current ≡ m
  pub limited : m ≡ 9 → 0 < t.limit
  pub unlimited : m ≤ 10 → (m ≡ 9 → ⊥) → t.limit ≡ 0
  pub result : t.result ≤ 2
  pub resultless : 8 < m → (m ≡ 10 → ⊥) → t.result ≡ 0
  pub maskless : m ≤ 22 → t.mask ≡ 0
  pub modeless : m ≤ 22 → t.mode ≡ 0
  pub masked : 22 < m → 0 < t.mask
  pub mode : t.mode ≤ 3

-- and what it is among the others: who stands before it, and the word that it waits for
pub record Waits (m i : ℕ) (b : List ℕ) : Type 0 where
  pub rests : Rests m (thread i (view b))
  pub behind : 10 < m → behind_previous i b ≡ true
  pub unmet : 22 < m → not (holds (thread i (view b)).mode (thread i (view b)).mask (flag_object (m - 23) (view b)).word) ≡ true

pub record Stands (m i : ℕ) (b : List ℕ) : Type 0 where
  pub absent : m ≡ 0 → zero_thread (thread i (view b)) ≡ true
  pub created : 0 < m → (thread i (view b)).created ≡ 1
  pub priority : priority_fits i (view b) ≡ true
  pub quantum : quantum_fits (thread i (view b)) ≡ true
  pub waits : Waits m i b

-- ---- all zero

each_zero : (l : List ℕ) → all_zero l ≡ true → Each (λ (x : ℕ). x ≡ 0) l
each_zero [] e = tt
each_zero (x ∷ xs) e = (eqb-true x 0 (left (eqb x 0) (all_zero xs) e), each_zero xs (right (eqb x 0) (all_zero xs) e))

zero_priority : (i : ℕ) (s : State) → (thread i s).base ≡ 0 → (thread i s).current ≡ 0 → priority_fits i s ≡ true
unfolding priority_fits
zero_priority i s base current =
    let t = thread i s in
    both (lt-ltb t.current 8 (omega arith))
    (both (le-leb t.base t.current (omega arith))
    (or_right (owns_any i s) (eqb t.current t.base) (eq-eqb t.current t.base (omega arith))))

zero_quantum : (t : Thread) → t.quantum ≡ 0 → t.left ≡ 0 → quantum_fits t ≡ true
unfolding quantum_fits
zero_quantum t quantum left = both (le-leb t.left t.quantum (omega arith)) (rw (le-ltb 0 t.quantum (omega arith)))

module _ (i : ℕ) (b : List ℕ) where
  zero_stands : zero_thread (thread i (view b)) ≡ true → Stands 0 i b
  zero_stands e =
      let z = each_zero (thread_numbers (thread i (view b))) e in
      record {
        absent = λ h. e;
        created = λ h. absurd (omega arith);
        priority = zero_priority i (view b) (omega arith) (omega arith);
        quantum = zero_quantum (thread i (view b)) (omega arith) (omega arith);
        waits = record { rests = omega arith; behind = λ h. absurd (omega arith); unmet = λ h. absurd (omega arith) };
      }

  -- ---- who passes stands so

  resting : (j : ℕ) → j < 10 → Rests (suc j) (thread i (view b)) → Waits (suc j) i b
  resting j h r = record { rests = r; behind = λ k. absurd (omega arith); unmet = λ k. absurd (omega arith) }

  rest-waits : (j : ℕ) → rest j i b ≡ true → Waits (suc j) i b
  rest-waits j e =
      let t = thread i (view b) in
      by_kind j
      (λ h.
      let p = nested_each (eqb t.current j) (eqb t.limit 0 ∷ idle_tests j i b) (rw (ready_asks j i b h) at e) in
      resting j (omega arith) (omega (arith, eqb-true, leb-true)))
      (λ h.
      let p = nested_each (ltb 0 t.limit) (asleep_tests j i b) (rw (asleep_asks j i b h) at e) in
      resting j (omega arith) (omega (arith, eqb-true, ltb-true)))
      (λ h.
      let p = nested_each (eqb t.limit 0) (idle_tests j i b) (rw (stopped_asks j i b h) at e) in
      resting j (omega arith) (omega (arith, eqb-true, leb-true)))
      (λ h k.
      let p = nested_each (behind_previous i b) (waiting_tests j i b) (rw (waiting_asks j i b h k) at e) in
      record { rests = omega (arith, eqb-true); behind = λ _. p.0; unmet = λ l. absurd (omega arith) })
      (λ h.
      let p = nested_each (behind_previous i b) (flags_tests j i b) (rw (flags_asks j i b h) at e) in
      record { rests = omega (arith, eqb-true, ltb-true, leb-true); behind = λ _. p.0; unmet = λ _. p.1.1.1.1.0 })

  passed-stands : (j : ℕ) → Passed (eqb (thread i (view b)).created 1 ∷ priority_fits i (view b) ∷ quantum_fits (thread i (view b)) ∷ rest j i b ∷ [])
      → Stands (suc j) i b
  passed-stands j p =
      record {
        absent = λ h. absurd (omega arith);
        created = λ h. eqb-true (thread i (view b)).created 1 p.0;
        priority = p.1.0;
        quantum = p.1.1.0;
        waits = rest-waits j p.1.1.1.0;
      }

  pub asked-stands : (m : ℕ) → thread_asked m i b ≡ true → Stands m i b
  unfolding nothing_of stands_right
  asked-stands zero e = zero_stands (left (zero_thread (thread i (view b))) (eqb (next_link i b) 0 && eqb (previous_link i b) 0) e)
  asked-stands (suc j) e =
      let t = thread i (view b) in
      passed-stands j (nested_each (eqb t.created 1) (priority_fits i (view b) ∷ quantum_fits t ∷ rest j i b ∷ []) e)

  -- ---- and who stands so passes

  waits-rest : (j : ℕ) → Waits (suc j) i b → rest j i b ≡ true
  waits-rest j s =
      let t = thread i (view b) in
      let r = s.rests in
      by_kind j
      (λ h.
      rw (ready_asks j i b h)
      (each_nested (eqb t.current j) (eqb t.limit 0 ∷ idle_tests j i b)
      (eq-eqb t.current j (omega (arith, r.ready (omega arith) (omega arith))), stopped (omega arith) (λ z. omega arith) r)))
      (λ h.
      rw (asleep_asks j i b h)
      (each_nested (ltb 0 t.limit) (asleep_tests j i b)
      (omega (
        arith,
        eq-eqb,
        lt-ltb,
        r.limited (omega arith),
        r.maskless (omega arith),
        r.modeless (omega arith),
        r.resultless (omega arith) (λ z. omega arith),
      ))))
      (λ h. rw (stopped_asks j i b h) (each_nested (eqb t.limit 0) (idle_tests j i b) (stopped (omega arith) (λ z. omega arith) r)))
      (λ h k.
      rw (waiting_asks j i b h k)
      (each_nested (behind_previous i b) (waiting_tests j i b) (
        s.behind (omega arith),
        omega (arith, eq-eqb, r.resultless (omega arith) (λ z. omega arith), r.maskless (omega arith), r.modeless (omega arith)),
      )))
      (λ h.
      rw (flags_asks j i b h)
      (each_nested (behind_previous i b) (flags_tests j i b) (
        s.behind (omega arith),
        (
          eq-eqb t.result 0 (r.resultless (omega arith) (λ z. omega arith)),
          (lt-ltb 0 t.mask (r.masked (omega arith)), (le-leb t.mode 3 r.mode, (s.unmet (omega arith), tt))),
        ),
      )))
    where
      stopped : suc j ≤ 10 → (suc j ≡ 9 → ⊥) → Rests (suc j) (thread i (view b)) → Passed (eqb (thread i (view b)).limit 0 ∷ idle_tests j i b)
      stopped h n r = omega (arith, eq-eqb, le-leb, r.unlimited h n, r.result, r.maskless (omega arith), r.modeless (omega arith))

  pub stands-asked : (m : ℕ) → (m ≡ 0 → (next_link i b ≡ 0) × (previous_link i b ≡ 0)) → Stands m i b → thread_asked m i b ≡ true
  unfolding nothing_of stands_right
  stands-asked zero links s = both (s.absent refl) (both (eq-eqb (next_link i b) 0 (links refl).0) (eq-eqb (previous_link i b) 0 (links refl).1))
  stands-asked (suc j) links s =
      let t = thread i (view b) in
      each_nested (eqb t.created 1) (priority_fits i (view b) ∷ quantum_fits t ∷ rest j i b ∷ [])
      (eq-eqb t.created 1 (s.created (omega arith)), (s.priority, (s.quantum, (waits-rest j s.waits, tt))))

-- ---- there exactly where it is on a list

pub stands-created : (m i : ℕ) (b : List ℕ) → Stands m i b → (thread i (view b)).created ≡ cond (eqb m 0) 0 1
stands-created zero i b s = (each_zero (thread_numbers (thread i (view b))) (s.absent refl)).0
stands-created (suc j) i b s = rw eqb-suc-zero (s.created (omega arith))
