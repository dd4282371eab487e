-- Each pass is the clauses that speak of its records; together they are those of all records.
use mathlib.Core.Path.{◌∙◌}
use mathlib.Core.Bool.{and_assoc, and-true}
use Rattle.sequences.proofs.Tests.{right}
use Rattle.model.specs.Before.{view}
use Rattle.soundness.specs.Whole.{ready_fits, waits_fit, lists_fit, records_fit}
use Rattle.soundness.proofs.ObjectLaws.{semaphores_by_clauses, mutexes_by_clauses, flags_by_clauses}
use Rattle.soundness.proofs.TimerLaws.{timers_by_clauses}
use Rattle.soundness.proofs.records_fit.Goals as goal

pub mutexes_fit-b-requires : goal.mutexes_fit-b-requires
unfolding lists_fit
mutexes_fit-b-requires c =
    right (ready_fits c.args.t c.args.rows) (waits_fit c.args.t) c.requires.rows_value

pub returns : goal.returns
unfolding lists_fit records_fit view
returns c =
    let t = c.args.t in
    let rows = c.args.rows in
    let fit = right (ready_fits t rows) (waits_fit t) c.requires.rows_value in
    rw (
      c.semaphores_fit-a.ensures ∙ semaphores_by_clauses t rows c.requires.shape fit,
      c.mutexes_fit-b.ensures ∙ mutexes_by_clauses t rows c.requires.shape fit,
      c.all_flags_fit-c.ensures ∙ flags_by_clauses t rows c.requires.shape fit,
      c.timers_fit-d.ensures ∙ timers_by_clauses t rows c.requires.shape,
    )
    (simp (and_assoc, and-true))
