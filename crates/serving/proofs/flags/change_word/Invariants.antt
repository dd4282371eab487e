-- The list is walked by its links: what is left to do from each link on is what was to do once the word had changed.
use lib.ListN.{length}
use Rattle.model.specs.State.{flags_list}
use Rattle.model.specs.Parts.{list}
use Rattle.model.specs.Effects.{wake_each, met}
use Rattle.model.specs.Layout.{view}
use Rattle.serving.proofs.FlagWaiters.{Waking, ahead}
use Rattle.serving.proofs.flags.change_word.Given as goal

abbrev pub invariant-loop-link : goal.invariant-loop-link
invariant-loop-link l =
    Waking l.word (flags_list l.o) (wake_each l.word (met l.word (list (flags_list l.o) (view l.initial.image)) (view l.initial.image)) (view l.initial.image)) l.image l.link

abbrev pub decreases-loop-link : goal.decreases-loop-link
decreases-loop-link l = length (ahead l.image l.link)
