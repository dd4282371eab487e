-- By its three ways: it ends in the tick, it lasts longer, or none counts.
use Rattle.std.proofs.Common.{◌≡◌, ℕ, ◌+◌, ◌<◌, sym, ◌∙◌, arith}
use Rattle.model.specs.State.{State}
use Rattle.model.specs.Layout.{view}
use Rattle.rules.specs.Counting.{never}
use Rattle.theorems.specs.Leap.{quantum_leap}
use Rattle.words.proofs.Does.{same_word}
use Rattle.timed.specs.Ahead.{Falls}
use Rattle.timed.specs.Counters.{running}
use Rattle.timed.proofs.Placing.{place-back, place-next, place_none}
use Rattle.timed.proofs.Using.{counts_on, running-left, spend-idle, quantum_ends, quantum_lasts}
use Rattle.timed.proofs.use_quantum.Goals as goal

ends : {p q : ℕ} {s : State} → Falls p q s → q ≡ p → running s ≡ p + 1
ends {p} {q} {s} f e = omega (arith, place-back (running s) f.quantum.at (omega (arith, e, f.comes)), e)

lasts : {p q : ℕ} {s : State} → Falls p q s → q < never → running s ≡ q + 1
lasts {s = s} f h = place-back (running s) f.quantum.at h

pub turn_over-requires : goal.turn_over-requires
turn_over-requires c =
    let f = c.requires.falls in
    let v = view c.args.image.now in
    let counts = (running-left v (omega (arith, ends f c.if-quantum-until.true))).0 in record { whole = c.requires.whole; image_value = (counts, f.chosen (counts_on v counts)) }

pub spend-requires : goal.spend-requires
spend-requires c =
    let f = c.requires.falls in
    let v = view c.args.image.now in
    let left = lasts f (omega (arith, c.if-quantum-ne-NEVER.true)) in
    let counts = running-left v (omega (arith, left)) in record { whole = c.requires.whole; image_value = (counts.0, omega (arith, left, counts.1, f.first)) }

pub returns-then-quantum-until : goal.returns-then-quantum-until
returns-then-quantum-until c =
    let gap = c.args.until + 1 in
    same_word c.turn_over.ensures (quantum_leap gap) (quantum_ends gap (view c.args.image.now) (omega arith) (ends c.requires.falls c.if-quantum-until.true))

pub returns-then-quantum-ne-NEVER : goal.returns-then-quantum-ne-NEVER
returns-then-quantum-ne-NEVER c =
    let v = view c.args.image.now in
    let gap = c.args.until + 1 in
    let more : running v ≡ gap → ⊥ = λ h. c.if-quantum-until.false (place-next (running v) c.requires.falls.quantum.at h) in
    same_word c.spend.ensures (quantum_leap gap) (quantum_lasts gap v (omega arith) more)

pub returns-else-quantum-ne-NEVER : goal.returns-else-quantum-ne-NEVER
returns-else-quantum-ne-NEVER c =
    let f = c.requires.falls in
    let v = view c.args.image.now in
    let gap = c.args.until + 1 in
    let none = place_none (running v) f.quantum.at (omega (arith, f.quantum.fits)) (omega (arith, c.if-quantum-ne-NEVER.false)) in
    record { whole = c.requires.whole; view = sym (spend-idle gap v none) ∙ quantum_lasts gap v (omega arith) (λ h. omega (arith, none, h)) }
