-- Off its list the thread takes the new priority and enters again by it; where it isn't to move, it only takes it.
use native.Mathlib.Omega.{arith}
use borrow.Author.Tests.{ltb-true}
use lib.Dec.{leb, ltb}
use Rattle.sequences.proofs.Tests.{right}
use Rattle.words.proofs.Known.{told-on}
use Rattle.words.proofs.Retaking.{retaken_off, retaken_ready, retaken_waiting, retaken_still}
use Rattle.words.proofs.priorities.retake.Goals as goal

pub leave-requires : goal.leave-requires
leave-requires c =
    told-on c.requires.given c.list_of-j.ensures (omega (arith, c.if-j-lt-PRIORITY_COUNT.true))

pub leave-requires-then-j : goal.leave-requires-then-j
leave-requires-then-j c =
    let j = c.list_of-j.result in
    told-on c.requires.given c.list_of-j.ensures (omega (arith, ltb-true j 26 (right (leb 10 j) (ltb j 26) c.if-j.true)))

pub enter_ready-requires : goal.enter_ready-requires
enter_ready-requires c =
    retaken_off c.requires.given c.requires.p_bound c.leave.ensures c.set_current.ensures

pub returns-then-j-lt-PRIORITY_COUNT : goal.returns-then-j-lt-PRIORITY_COUNT
returns-then-j-lt-PRIORITY_COUNT c =
    retaken_ready c.requires.given c.requires.p_bound c.leave.ensures c.set_current.ensures c.list_of-j.ensures c.if-j-lt-PRIORITY_COUNT.true
    c.enter_ready.ensures

pub enter_by_priority-requires : goal.enter_by_priority-requires
enter_by_priority-requires c =
    let j = c.list_of-j.result in
    record {
      off = retaken_off c.requires.given c.requires.p_bound c.leave-then-j.ensures c.set_current-then-j.ensures;
      list = omega (arith, ltb-true j 26 (right (leb 10 j) (ltb j 26) c.if-j.true));
    }

pub returns-then-j : goal.returns-then-j
returns-then-j c =
    retaken_waiting c.requires.given c.requires.p_bound c.leave-then-j.ensures c.set_current-then-j.ensures c.list_of-j.ensures
    (omega (arith, c.if-j-lt-PRIORITY_COUNT.false)) c.if-j.true c.enter_by_priority.ensures

pub returns : goal.returns
returns c =
    retaken_still c.requires.given c.requires.p_bound c.list_of-j.ensures (omega (arith, c.if-j-lt-PRIORITY_COUNT.false)) c.if-j.false c.set_current-2.ensures
