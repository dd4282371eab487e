-- `threads::thread_fits` meets its contract: the definition's tests, bracketed from the left, with `x == 0` where it asks whether x isn't above 0.
use mathlib.Core.Path.{◌≡◌}
use mathlib.Core.Bool.{Bool, not, ◌&&◌, ◌||◌, and_assoc, and-true}
use Prim.Native.Nat.{ℕ}
use lib.Dec.{eqb, leb, ltb}
use Rattle.sequences.proofs.Positive.{not_positive}
use Rattle.model.specs.declared.tables.Thread.{Thread}
use Rattle.model.specs.Ranges.{◌implies◌}
use Rattle.model.specs.Sound.{thread_in_range, zero_thread}
use Rattle.soundness.specs.Records.{thread_fits}
use Rattle.soundness.proofs.threads.thread_fits.Goals as goal

fits-spread : (t : Thread) (standing resting flagged : ℕ) (owner in_range zero : Bool) → in_range ≡ thread_in_range t → zero ≡ (eqb t.created 0 implies zero_thread t)
    → in_range
    && eqb standing t.created
    && zero
    && (leb t.base t.current && (owner || eqb t.current t.base))
    && (not (eqb resting 0) || eqb t.limit 0)
    && (not (eqb flagged 0) || eqb t.mask 0 && eqb t.mode 0)
    && (eqb resting 0 || eqb t.result 0)
    && (leb t.left t.quantum && (eqb t.quantum 0 || ltb 0 t.left))
    ≡ thread_fits t standing resting flagged owner
unfolding thread_fits
fits-spread t standing resting flagged owner in_range zero p q = rw (p, q) (simp (not_positive, and_assoc, and-true))

pub returns : goal.returns
returns c =
    let a = c.args in
    fits-spread a.t a.standing a.resting a.flagged a.owner c.thread_in_range-in_range.result c.absent_is_zero-zero.result
    c.thread_in_range-in_range.ensures c.absent_is_zero-zero.ensures
