-- After j turns the first j lists have been followed.
use Prim.Native.Nat.{◌+◌}
use Rattle.sequences.specs.Bytes.{part}
use Rattle.links.specs.Noted.{Through}
use Rattle.links.proofs.noting.note.Given as goal

abbrev pub invariant-loop-j : goal.invariant-loop-j
invariant-loop-j l = Through l.n l.m l.j (part l.at (l.n + l.m + (l.n + l.m)) l.bytes) l.marks
