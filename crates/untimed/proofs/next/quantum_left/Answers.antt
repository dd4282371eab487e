-- The model's test in its three parts. The code stops at the first that fails; past the last id is no thread, and no quantum.
use mathlib.Core.Path.{◌≡◌, sym, ap, ◌∙◌}
use mathlib.Core.Bool.{Bool, true, false, cond, ◌&&◌, not}
use mathlib.Core.List.{List, []}
use Prim.Native.Nat.{ℕ, ◌<◌, ◌≤◌}
use native.Mathlib.Omega.{arith}
use borrow.Author.Tests.{eqb-true, eqb-false, eq-eqb, ltb-true, lt-ltb, leb-true, leb-false, not-true, not-false}
use lib.Dec.{eqb, ltb, leb}
use lib.ListN.{length, get_or, get_or-eq_default}
use Rattle.sequences.proofs.Tests.{left, right, neither, untrue, or_cases}
use Rattle.model.specs.declared.tables.Thread.{Thread}
use Rattle.model.specs.State.{absent_thread}
use Rattle.model.specs.Parts.{thread}
use Rattle.model.specs.Tick.{quantum_counts}
use Rattle.model.specs.Layout.{view, lists_of}
use Rattle.layout.proofs.Viewed.{many-threads, ready_linked}
use Rattle.words.specs.Images.{Whole}
use Rattle.untimed.proofs.next.quantum_left.Goals as goal
use Rattle.untimed.proofs.next.quantum_left.Goals.{Else-off-i}

module _ {b : List ℕ} (w : Whole b) {i : ℕ} (chosen : i ≡ (view b).chosen) where
  abbrev x : Thread
  x = thread i (view b)

  abbrev on : Bool
  on = eqb (view b).off 0

  abbrev sliced : Bool
  sliced = ltb 0 x.quantum

  abbrev shared : Bool
  shared = leb 2 (length (get_or (lists_of b) x.current []))

  same_test : quantum_counts (view b) ≡ on && sliced && shared
  unfolding quantum_counts
  same_test = rw (← chosen, ready_linked b x.current (w.placed.priorities i))

  abbrev Counts : Type 0
  Counts = ((view b).off ≡ 0) × (0 < x.quantum) × (shared ≡ true)

  parts : quantum_counts (view b) ≡ true → Counts
  parts h =
      let e = sym same_test ∙ h in
      let m = left (on && sliced) shared e in
      (eqb-true (view b).off 0 (left on sliced m), ltb-true 0 x.quantum (right on sliced m), right (on && sliced) shared e)

  uncounted : (Counts → false ≡ true) → 0 ≡ cond (quantum_counts (view b)) (thread (view b).chosen (view b)).left 0
  uncounted none = rw (untrue (quantum_counts (view b)) (λ h. none (parts h)))

  counted : Counts → x.left ≡ cond (quantum_counts (view b)) (thread (view b).chosen (view b)).left 0
  counted h = rw (same_test, ← chosen, eq-eqb (view b).off 0 h.0, lt-ltb 0 x.quantum h.1, h.2)

  -- as the walk tells it
  told : {p : ℕ} → p ≡ x.current → {r : Bool} → r ≡ leb 2 (length (get_or (lists_of b) p [])) → shared ≡ r
  told e h = ap (λ (k : ℕ). leb 2 (length (get_or (lists_of b) k []))) (sym e) ∙ sym h

-- past the last id
past : (b : List ℕ) (i : ℕ) → 16 ≤ i → 0 < (thread i (view b)).quantum → ⊥
past b i n h =
    let e = ap (λ (t : Thread). t.quantum) (get_or-eq_default (view b).threads absent_thread {n = i} (omega (arith, many-threads b))) in
    omega (arith, e)

-- what the first test tells where it is left
passed : (e : Else-off-i) → (e.off.result ≡ 0) × (e.chosen-i.result < 16)
passed e =
    let off = e.off.result in
    let i = e.chosen-i.result in
    let h = neither (not (eqb off 0)) (leb 16 i) e.if-off-i.false in
    (eqb-true off 0 (not-false (eqb off 0) h.0), leb-false 16 i h.1)

pub returns-then-off-i : goal.returns-then-off-i
returns-then-off-i c =
    let off = c.off in
    let chosen = c.chosen-i in
    uncounted c.requires chosen.ensures (λ h.
    or_cases (not (eqb off.result 0)) (leb 16 chosen.result) c.if-off-i.true
    (λ n. absurd (eqb-false off.result 0 (not-true (eqb off.result 0) n) (off.ensures ∙ h.0)))
    (λ n. absurd (past c.args.image.now chosen.result (leb-true 16 chosen.result n) h.1)))

pub returns-then-quantum-eq0 : goal.returns-then-quantum-eq0
returns-then-quantum-eq0 c =
    uncounted c.requires c.chosen-i.ensures
    (λ h. absurd (omega (arith, c.quantum.ensures, c.if-quantum-eq0.true, h.1)))

pub is_shared-requires : goal.is_shared-requires
is_shared-requires c =
    let level = c.requires.placed.priorities c.chosen-i.result in record { orderly = c.requires.links; j_lt_m = omega (arith, level, c.current-p.ensures) }

pub returns-then-not-is_shared : goal.returns-then-not-is_shared
returns-then-not-is_shared c =
    let w = c.requires in
    let chosen = c.chosen-i.ensures in
    let walk = c.is_shared in
    uncounted w chosen (λ h. sym (c.if-not-is_shared.true) ∙ sym (told w chosen c.current-p.ensures walk.ensures) ∙ h.2)

pub returns : goal.returns
returns c =
    let w = c.requires in
    let chosen = c.chosen-i.ensures in
    let walk = c.is_shared in
    c.left.ensures
    ∙ counted w chosen (
      sym c.off.ensures ∙ (passed (goal.at.returns c).Else-off-i).0,
      omega (arith, c.quantum.ensures, c.if-quantum-eq0.false),
      told w chosen c.current-p.ensures walk.ensures ∙ c.if-not-is_shared.false,
    )

pub quantum-requires : goal.quantum-requires
quantum-requires c = (passed c).1

pub current-p-requires : goal.current-p-requires
current-p-requires c = (passed (goal.at.current-p-requires c).Else-off-i).1

pub left-requires : goal.left-requires
left-requires c = (passed (goal.at.left-requires c).Else-off-i).1
