-- `threads_fit` meets its contract: what the walks have found together is what all lists ask, and the counts on the way and in the end say
-- where each thread stands.
use mathlib.Core.Path.{◌≡◌, refl}
use mathlib.Core.Bool.{true}
use mathlib.Core.List.{List, map}
use Prim.Native.Nat.{ℕ, ◌+◌, ◌≤◌}
use native.Mathlib.Omega.{arith}
use lib.ListN.{replicate, get_or-replicate}
use lib.Seq.{slice}
use Rattle.sequences.proofs.Tests.{left, right}
use Rattle.model.specs.Before.{ids_of}
use Rattle.soundness.specs.Lists.{CountsUpTo, Tallied}
use Rattle.soundness.specs.Whole.{ready_fits, waits_fit, lists_fit, threads_fit}
use Rattle.soundness.proofs.Counting.{up_to_more, waits-small}
use Rattle.soundness.proofs.Counted.{counted}
use Rattle.soundness.proofs.ThreadLaws.{threads_by_clauses}
use Rattle.soundness.proofs.MemberLaws.{members_by_clauses}
use Rattle.soundness.proofs.threads_fit.Goals as goal
use Rattle.model.specs.declared.tables.Table.{Table}
use Rattle.soundness.specs.Shape.{Shape}

ready : (t : Table) (rows : List (List ℕ)) → lists_fit t rows ≡ true → ready_fits t rows ≡ true
unfolding lists_fit
ready t rows e = left (ready_fits t rows) (waits_fit t) e

waits : (t : Table) (rows : List (List ℕ)) → lists_fit t rows ≡ true → waits_fit t ≡ true
unfolding lists_fit
waits t rows e = right (ready_fits t rows) (waits_fit t) e

-- small counts stay small
small-none : CountsUpTo 0 (replicate 16 0)
small-none = record { size = refl; small = λ i h. omega (arith, get_or-replicate {A = ℕ} 16 i 0 0 h) }

small-more : (t : Table) (rows : List (List ℕ)) → Shape t rows → lists_fit t rows ≡ true → (from to n : ℕ) {before after : List ℕ} → from ≤ to → to ≤ 18
    → Tallied before (slice from to (map ids_of t.waits)) after → CountsUpTo n before → CountsUpTo (n + 288) after
small-more t rows w e = waits-small t.waits w.waits (waits t rows e)

pub walk_flags-flagged-requires : goal.walk_flags-flagged-requires
walk_flags-flagged-requires c = record { j_value = waits c.args.t c.args.rows c.requires.rows_value; counts_up_to = up_to_more (omega arith) small-none }

pub walk_waits-waiting-requires : goal.walk_waits-waiting-requires
walk_waits-waiting-requires c = record { j_value = waits c.args.t c.args.rows c.requires.rows_value; from_le_to = omega arith; counts_up_to = up_to_more (omega arith) (small-more c.args.t c.args.rows c.requires.shape c.requires.rows_value 14 18 0 (omega arith) (omega arith) c.walk_flags-flagged.ensures.tallied small-none) }

pub walk_waits-asleep-requires : goal.walk_waits-asleep-requires
walk_waits-asleep-requires c = record { j_value = waits c.args.t c.args.rows c.requires.rows_value; from_le_to = omega arith; counts_up_to = up_to_more (omega arith) (small-more c.args.t c.args.rows c.requires.shape c.requires.rows_value 2 14 288 (omega arith) (omega arith) c.walk_waits-waiting.ensures.tallied (small-more c.args.t c.args.rows c.requires.shape c.requires.rows_value 14 18 0 (omega arith) (omega arith) c.walk_flags-flagged.ensures.tallied small-none)) }

pub walk_waits-parked-requires : goal.walk_waits-parked-requires
walk_waits-parked-requires c = record { j_value = waits c.args.t c.args.rows c.requires.rows_value; from_le_to = omega arith; counts_up_to = up_to_more (omega arith) (small-more c.args.t c.args.rows c.requires.shape c.requires.rows_value 0 1 576 (omega arith) (omega arith) c.walk_waits-asleep.ensures.tallied (small-more c.args.t c.args.rows c.requires.shape c.requires.rows_value 2 14 288 (omega arith) (omega arith) c.walk_waits-waiting.ensures.tallied (small-more c.args.t c.args.rows c.requires.shape c.requires.rows_value 14 18 0 (omega arith) (omega arith) c.walk_flags-flagged.ensures.tallied small-none))) }

pub walk_ready-ready-requires : goal.walk_ready-ready-requires
walk_ready-ready-requires c = record { p_value = ready c.args.t c.args.rows c.requires.rows_value; counts_up_to = up_to_more (omega arith) (small-more c.args.t c.args.rows c.requires.shape c.requires.rows_value 1 2 864 (omega arith) (omega arith) c.walk_waits-parked.ensures.tallied (small-more c.args.t c.args.rows c.requires.shape c.requires.rows_value 0 1 576 (omega arith) (omega arith) c.walk_waits-asleep.ensures.tallied (small-more c.args.t c.args.rows c.requires.shape c.requires.rows_value 2 14 288 (omega arith) (omega arith) c.walk_waits-waiting.ensures.tallied (small-more c.args.t c.args.rows c.requires.shape c.requires.rows_value 14 18 0 (omega arith) (omega arith) c.walk_flags-flagged.ensures.tallied small-none)))) }

pub returns : goal.returns
unfolding threads_fit
returns c =
    let last = c.walk_ready-ready in
    let parked = c.walk_waits-parked.ensures in
    let resting = c.walk_waits-asleep in
    let waiting = c.walk_waits-waiting.ensures in
    let flagged = c.walk_flags-flagged in
    let t = c.args.t in
    let rows = c.args.rows in
    let w = c.requires.shape in
    let members =
    members_by_clauses t rows w flagged.ensures.answer waiting.answer resting.ensures.answer parked.answer
    last.ensures.answer in
    let stood =
    counted t rows w flagged.ensures.tallied waiting.tallied resting.ensures.tallied parked.tallied last.ensures.tallied in
    let threads =
    threads_by_clauses t rows w last.new.counts resting.new.counts flagged.new.counts stood.standing stood.resting stood.flagged in
    rw (members, c.threads_fit-fits.ensures, threads)
