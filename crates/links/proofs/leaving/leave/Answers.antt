-- Where i stands on a list, the search tells the cells beside it; else the links are right as they are.
use native.Mathlib.Nat.{zero-add}
use native.Mathlib.Omega.{arith}
use Rattle.links.proofs.Neighbours.{ahead_most, back_most, behind-within, searched, stayed}
use Rattle.links.proofs.leaving.leave.Goals as goal

pub before-requires-clause-to_id : goal.before-requires-clause-to_id
before-requires-clause-to_id c = back_most c.requires.orderly c.args.i c.requires.i_lt_n.0

pub before-requires-2-clause-to_id : goal.before-requires-2-clause-to_id
before-requires-2-clause-to_id c = rw zero-add (ahead_most c.requires.orderly c.args.i c.requires.i_lt_n.0)

pub returns-in_default : goal.returns-in_default
returns-in_default c = stayed c.requires.orderly c.args.i c.requires.i_lt_n.0 (omega arith)

pub returns-in_default-before : goal.returns-in_default-before
returns-in_default-before c =
    let b = searched c.requires.orderly c.args.i c.requires.i_lt_n.0 (omega (arith, c.in-Some.ensures)) in
    absurd (omega (arith, behind-within c.requires.orderly b))

pub take_out-requires-clause-beside : goal.take_out-requires-clause-beside
take_out-requires-clause-beside c =
    rw (← c.in-Some.ensures.0, ← c.in-Some-before.ensures.0) (searched c.requires.orderly c.args.i c.requires.i_lt_n.0 (omega (arith, c.in-Some.ensures)))
