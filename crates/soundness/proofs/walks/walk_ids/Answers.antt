use mathlib.Core.Path.{◌≡◌, sym, ◌∙◌}
use Prim.Native.Nat.{◌≤◌, ◌<◌}
use native.Mathlib.Omega.{arith}
use lib.ListN.{length, get_or, take, length-take}
use lib.Seq.{get_or-take}
use Rattle.rows.proofs.Rows.{length_held}
use Rattle.sequences.proofs.Slices.{take_grown}
use Rattle.soundness.specs.Members.{kind_of, mark_of}
use Rattle.soundness.proofs.Fitting.{id-in_range, fitting}
use Rattle.soundness.proofs.Asking.{asks_all, asks_step, asks_end}
use Rattle.soundness.proofs.Counting.{tallied-empty, tallied-id, tallied-most}
use Rattle.soundness.proofs.walks.walk_ids.Goals as goal

pub loop-k-init : goal.loop-k-init
loop-k-init c =
    let a = c.args in
    (asks_all (kind_of a.members) (mark_of a.members) a.threads.now (take a.n a.ids) 0, tallied-empty a.counts.now c.requires.counts_up_to.size)

pub overflow_add-counts : goal.overflow_add-counts
overflow_add-counts c =
    let l = c.loop-k in
    let in_range = id-in_range c.args.n c.args.ids c.requires.ids_value c.loop-k.k c.loop-k-test.true in
    let i = get_or c.args.ids l.k 0 in
    let h : length (take l.k c.args.ids) ≤ 16 = rw length-take (omega arith) in
    omega (arith, tallied-most l.invariant.1 16 h i in_range.1, c.requires.counts_up_to.small i in_range.1)

pub loop-k-preserved : goal.loop-k-preserved
loop-k-preserved c =
    let l = c.loop-k in
    let a = c.args in
    let w = fitting a.n a.ids c.requires.ids_value in
    let h : l.k < length a.ids = omega arith in
    let i : l.k < length (take a.n a.ids) = omega (arith, length_held (fitting a.n a.ids c.requires.ids_value).row) in (
      l.invariant.0
          ∙ rw (c.member_fits.ensures, c.in_any_order-any_order.ensures, ← get_or-take a.n a.ids l.k 0 c.loop-k-test.true)
          (asks_step (kind_of a.members) (mark_of a.members) a.threads.now (take a.n a.ids) l.k l.before l.fits i),
      rw (take_grown a.ids l.k 0 h) (tallied-id l.invariant.1 (get_or a.ids l.k 0) (id-in_range c.args.n c.args.ids c.requires.ids_value c.loop-k.k c.loop-k-test.true).1),
    )

pub returns : goal.returns
returns c =
    let l = c.loop-k in
    let a = c.args in
    let end : l.k ≡ a.n = omega arith in
    let i : length (take a.n a.ids) ≤ l.k = omega (arith, length_held (fitting a.n a.ids c.requires.ids_value).row) in
    record {
      answer = sym (l.invariant.0 ∙ asks_end (kind_of a.members) (mark_of a.members) a.threads.now (take a.n a.ids) l.k l.before l.fits i);
      tallied = rw (← end) l.invariant.1;
    }

pub bounds-ids-k : goal.bounds-ids-k
bounds-ids-k c = (id-in_range c.args.n c.args.ids c.requires.ids_value c.loop-k.k c.loop-k-test.true).0

pub bounds-threads-i : goal.bounds-threads-i
bounds-threads-i c = (id-in_range c.args.n c.args.ids c.requires.ids_value c.loop-k.k c.loop-k-test.true).1

pub bounds-counts-i : goal.bounds-counts-i
bounds-counts-i c = (id-in_range c.args.n c.args.ids c.requires.ids_value c.loop-k.k c.loop-k-test.true).1

pub bounds-counts-i-in-loop-k : goal.bounds-counts-i-in-loop-k
bounds-counts-i-in-loop-k c = (id-in_range c.args.n c.args.ids c.requires.ids_value c.loop-k.k c.loop-k-test.true).1
