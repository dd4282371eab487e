-- The list is walked as it stood before: what is left to do from place k on is what was to do once the word had changed.
use Rattle.model.specs.Before.{view}
use Rattle.kernel.proofs.MeetingLaws.{Waking}
use Rattle.kernel.proofs.flags.change_word.Given as goal

abbrev pub invariant-loop-i : goal.invariant-loop-i
invariant-loop-i l = Waking l.word l.i-items (view l.initial.u l.initial.rows) l.i-index l.u l.rows
