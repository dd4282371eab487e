-- From the first timer up: those passed are told; those from the end on stand at 0.
use Rattle.words.specs.Images.{Does}
use Rattle.timed.proofs.Settled.{times, told}
use Rattle.timed.proofs.settling.settle_timers.Given as goal

abbrev pub invariant-loop-o : goal.invariant-loop-o
invariant-loop-o l = Does l.initial.image (told times l.m l.o) l.image
