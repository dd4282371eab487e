use mathlib.Core.Path.{◌≡◌, subst}
use Prim.Native.Nat.{ℕ, ◌+◌}
use native.Mathlib.Omega.{arith}
use Rattle.sequences.specs.Bytes.{part}
use Rattle.links.specs.Noted.{Through}
use Rattle.links.proofs.Followed.{passes, part-size}
use Rattle.links.proofs.AllFollowed.{through_start, through_noted}
use Rattle.links.proofs.noting.note.Goals as goal

pub loop-j-init : goal.loop-j-init
loop-j-init c =
    let a = c.args in
    through_start a.n a.m (part a.at (a.n + a.m + (a.n + a.m)) a.bytes.now) a.marks.now c.requires.2

pub returns : goal.returns
returns c =
    let a = c.args in
    let s = part a.at (a.n + a.m + (a.n + a.m)) a.bytes.now in
    let all : c.loop-j.j ≡ a.m = omega (arith, c.loop-j.invariant.within, c.loop-j-test.false) in
    passes (through_noted (part-size a.at a.n a.m a.bytes.now c.requires.0) (subst (λ (j : ℕ). Through a.n a.m j s c.loop-j.marks) all c.loop-j.invariant))
