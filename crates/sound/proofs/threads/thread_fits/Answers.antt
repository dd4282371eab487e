-- A mark is 0, or one more than the number of a list.
use mathlib.Core.Path.{◌≡◌, refl, ◌∙◌}
use mathlib.Core.Bool.{Bool, ◌&&◌, or-true}
use mathlib.Core.List.{List}
use Prim.Native.Nat.{ℕ, zero, suc, ◌+◌, ◌*◌, ◌-◌, ◌<◌, ◌≤◌}
use native.Mathlib.Omega.{arith}
use native.Mathlib.Numerals.{unary_clauses}
use lib.ListN.{get_or}
use borrow.Author.Tests.{eq-eqb, lt-ltb, le-leb}
use Rattle.sequences.proofs.Numbers.{bytes_of}
use Rattle.sequences.proofs.RecordsLaid.{Fits}
use Rattle.model.specs.Parts.{thread}
use Rattle.model.specs.Words.{owns_any}
use Rattle.model.specs.Layout.{view, threads_at, lists_of}
use Rattle.fields.specs.Fields.{standing}
use Rattle.layout.proofs.Viewed.{thread_fits, many_linked}
use Rattle.sound.specs.Asked.{Followed, priority_fits, quantum_fits, idle, stands_right, thread_asked}
use Rattle.sound.proofs.Marks.{mark-most}
use Rattle.sound.proofs.OneNumber.{level}
use Rattle.sound.proofs.threads.thread_fits.Goals as goal

mark-within : (b marks : List ℕ) → Followed b marks → (i : ℕ) → i < 16 → get_or marks i 0 ≤ 26
mark-within b marks f i h = omega (arith, f.marked.at i h, mark-most i (lists_of b), many_linked b f.size)

marked-asked : (mark i : ℕ) (b : List ℕ) → (mark ≡ 0 → ⊥) → stands_right (mark - 1) i b ≡ thread_asked mark i b
marked-asked zero i b h = absurd (h refl)
marked-asked (suc j) i b h = simp unary_clauses

-- at its base on a ready list
at_base : (i p : ℕ) (b : List ℕ) → p < 8 → ((thread i (view b)).created ≡ 1) × ((thread i (view b)).base ≡ p) × ((thread i (view b)).current ≡ p)
    → quantum_fits (thread i (view b)) && idle (thread i (view b)) ≡ stands_right p i b
unfolding stands_right priority_fits
at_base i p b h e =
    rw (e.0, e.1, e.2, lt-ltb p 8 h, le-leb p p (omega arith), eq-eqb p p refl, or-true (owns_any i (view b)))

levelled : (mark i : ℕ) (b : List ℕ) → Fits threads_at (thread i (view b)) → mark ≤ 8 → standing (thread i (view b)) + 65791 ≡ 65792 * mark
    → {r : Bool} → r ≡ quantum_fits (thread i (view b)) && idle (thread i (view b)) → r ≡ thread_asked mark i b
levelled zero i b fits h e is = absurd (omega arith)
levelled (suc p) i b fits h e is = is ∙ at_base i p b (omega arith) (level (thread i (view b)) fits p (omega arith) e)

pub bounds-marks-i : goal.bounds-marks-i
bounds-marks-i c = omega (arith, c.requires.followed.marked.size)

pub stands_aside-requires : goal.stands_aside-requires
stands_aside-requires c =
    let f = c.requires.followed in
    let i = c.args.i in
    let h = c.requires.i_bound in record {
      i_bound = h;
      image_bound = (f.back i h (omega (arith, c.if-mark.true)), omega (arith, c.from.ensures, c.if-mark.true), omega (arith, c.from.ensures, mark-within c.args.image.now c.args.marks.now f i h));
    }

pub returns-then-mark : goal.returns-then-mark
returns-then-mark c =
    let a = c.args in
    rw c.from.ensures at c.stands_aside.ensures ∙ marked-asked (get_or a.marks.now a.i 0) a.i a.image.now (λ e. omega (arith, c.if-mark.true, e))

pub returns-then-standing-from : goal.returns-then-standing-from
returns-then-standing-from c =
    let a = c.args in
    let b = a.image.now in
    let fits = thread_fits b (bytes_of b c.fits-image) a.i c.requires.i_bound in
    levelled (get_or a.marks.now a.i 0) a.i b fits (omega (arith, c.if-mark.false)) (omega (arith, c.standing.ensures.0, c.from-2.ensures, c.if-standing-from.true))
    c.is_fresh.ensures

pub returns-then-mark-eq0 : goal.returns-then-mark-eq0
returns-then-mark-eq0 c = rw c.if-mark-eq0.true c.is_nothing.ensures

pub returns : goal.returns
returns c =
    let a = c.args in
    c.stands_ready.ensures ∙ marked-asked (get_or a.marks.now a.i 0) a.i a.image.now c.if-mark-eq0.false
