-- A quantum that fits, all of it left, moves nobody.
use mathlib.Core.Path.{refl}
use Prim.Native.Nat.{◌<◌, ◌≤◌}
use native.Mathlib.Omega.{arith}
use borrow.Author.Tests.{leb-true, not-false}
use Rattle.sequences.proofs.Tests.{left}
use Rattle.model.specs.Parts.{with_quantum}
use Rattle.model.specs.Ranges.{fits_16}
use Rattle.model.specs.Calls.{answers, unused_bcd}
use Rattle.model.specs.Effects.{set_quantum_effect}
use Rattle.theorems.proofs.Allowing.{not-due, thread-named}
use Rattle.words.proofs.Does.{rewritten_does}
use Rattle.effects.proofs.threads.set_quantum.Goals as goal
use Rattle.effects.proofs.threads.set_quantum.Goals.{Start}

below : (s : Start) → s.args.q.id < 16
unfolding answers
below s = thread-named s.requires.allowed refl

quantum_fits : (s : Start) → s.args.q.a ≤ 65535
unfolding answers
quantum_fits s =
    let q = s.args.q in
    leb-true q.a 65535 (left (fits_16 q.a) (unused_bcd q) (not-false _ (not-due s.requires.allowed 1 refl)))

pub overflow_cast-q-2 : goal.overflow_cast-q-2
overflow_cast-q-2 c = omega (arith, quantum_fits (goal.at.overflow_cast-q-2 c).Start)

pub overflow_cast-q-3 : goal.overflow_cast-q-3
overflow_cast-q-3 c = omega (arith, quantum_fits (goal.at.overflow_cast-q-3 c).Start)

pub set_quantum-requires : goal.set_quantum-requires
set_quantum-requires c = below (goal.at.set_quantum-requires c).Start

pub returns : goal.returns
unfolding set_quantum_effect
returns c =
    let q = c.args.q in
    rewritten_does q.id (with_quantum q.a q.a) c.requires.whole c.set_quantum.ensures (λ t. refl)
