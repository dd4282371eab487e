-- The links of i tell the cells beside it.
use native.Mathlib.Omega.{arith}
use Rattle.links.proofs.Neighbours.{id-reads, told}
use Rattle.links.proofs.leaving.leave_list.Goals as goal

pub overflow_add-n-3 : goal.overflow_add-n-3
overflow_add-n-3 c = omega (arith, id-reads c.requires.orderly c.args.i c.args.j c.requires.j_lt_m.1)

pub bounds-links-n : goal.bounds-links-n
bounds-links-n c = id-reads c.requires.orderly c.args.i c.args.j c.requires.j_lt_m.1

pub bounds-links-i : goal.bounds-links-i
bounds-links-i c = omega (arith, id-reads c.requires.orderly c.args.i c.args.j c.requires.j_lt_m.1)

pub take_out-requires-clause-beside : goal.take_out-requires-clause-beside
take_out-requires-clause-beside c =
    rw (c.cell_of-y.ensures, c.cell_of-z.ensures) (told c.requires.orderly c.args.i c.args.j c.requires.j_lt_m.1)
