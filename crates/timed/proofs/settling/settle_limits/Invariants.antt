-- From the first limit up: those passed are told; those before it and from the end on stand at 0.
use Rattle.words.specs.Images.{Does}
use Rattle.timed.proofs.Settled.{limits, told}
use Rattle.timed.proofs.settling.settle_limits.Given as goal

abbrev pub invariant-loop-i : goal.invariant-loop-i
invariant-loop-i l = Does l.initial.image (told limits l.m l.i) l.image
