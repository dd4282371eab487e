-- One record written.
use mathlib.Core.Path.{refl}
use Prim.Native.Nat.{◌<◌, ◌≤◌}
use native.Mathlib.Omega.{arith}
use borrow.Author.Tests.{leb-true, not-false}
use Rattle.sequences.proofs.Tests.{left}
use Rattle.model.specs.Ranges.{fits_16}
use Rattle.model.specs.Calls.{answers, unused_bcd}
use Rattle.model.specs.Effects.{set_quantum_effect}
use Rattle.kernel.proofs.Facts.{whole, not-due, thread-named}
use Rattle.kernel.proofs.threads.set_quantum.Goals as goal
use Rattle.kernel.proofs.threads.set_quantum.Goals.{Start}

below : (s : Start) → s.args.q.id < 16
unfolding answers
below s = thread-named s.requires.1 refl

quantum_fits : (s : Start) → s.args.q.a ≤ 65535
unfolding answers
quantum_fits s =
    let q = s.args.q in
    leb-true q.a 65535
    (left (fits_16 q.a) (unused_bcd q) (not-false _ (not-due s.requires.1 1 refl)))

pub overflow_cast-q : goal.overflow_cast-q
overflow_cast-q c = omega (arith, below (goal.at.overflow_cast-q c).Start)

pub overflow_cast-q-2 : goal.overflow_cast-q-2
overflow_cast-q-2 c = omega (arith, quantum_fits (goal.at.overflow_cast-q-2 c).Start)

pub with_quantum-requires : goal.with_quantum-requires
with_quantum-requires c = record { orderly_table = (whole c.requires.1).order.table; i_bound = below (goal.at.with_quantum-requires c).Start }

pub returns : goal.returns
unfolding set_quantum_effect
returns c = c.with_quantum.ensures
