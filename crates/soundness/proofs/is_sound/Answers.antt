-- Where the lists fit, the passes together are the model's test; where they don't, the table isn't sound.
use mathlib.Core.Path.{sym, ◌∙◌}
use native.Mathlib.Omega.{arith}
use Rattle.table.proofs.Stored.{orderly_facts}
use Rattle.soundness.specs.Shape.{Shape}
use Rattle.soundness.proofs.WholeLaws.{unfit_unsound, fit_lists, fit_sound}
use borrow.Author.Rules.{rules}
use Rattle.soundness.proofs.is_sound.Goals as goal
use Rattle.soundness.proofs.is_sound.Goals.{Start}

-- the arrays of a declared table have their lengths
shape : (c : Start) → Shape c.args.t c.args.rows
shape c =
    record {
      threads = search rules;
      semaphores = search rules;
      mutexes = search rules;
      flags = search rules;
      timers = search rules;
      lengths = search rules;
      waits = search rules;
      rows = search rules;
    }

pub threads_fit-threads-requires : goal.threads_fit-threads-requires
threads_fit-threads-requires c = record { shape = shape (goal.at.threads_fit-threads-requires c).Start; rows_value = sym c.lists_fit.ensures ∙ c.if-lists_fit.true }

pub records_fit-records-requires : goal.records_fit-records-requires
records_fit-records-requires c = record { shape = shape (goal.at.records_fit-records-requires c).Start; rows_value = sym c.lists_fit.ensures ∙ c.if-lists_fit.true }

pub choice_fits-chosen-requires : goal.choice_fits-chosen-requires
choice_fits-chosen-requires c =
    let fit = sym c.lists_fit.ensures ∙ c.if-lists_fit.true in
    (orderly_facts c.args.t c.args.rows (fit_lists c.args.t c.args.rows (shape (goal.at.choice_fits-chosen-requires c).Start) fit).layout).ready

pub returns-then-lists_fit : goal.returns-then-lists_fit
returns-then-lists_fit c =
    let fit = sym c.lists_fit.ensures ∙ c.if-lists_fit.true in
    rw (c.threads_fit-threads.ensures, c.records_fit-records.ensures, c.choice_fits-chosen.ensures)
    (fit_sound c.args.t c.args.rows (shape (goal.at.returns-then-lists_fit c).Start) (omega arith) fit)

pub returns-else-lists_fit : goal.returns-else-lists_fit
returns-else-lists_fit c =
    sym (unfit_unsound c.args.t c.args.rows (shape (goal.at.returns-else-lists_fit c).Start) (sym c.lists_fit.ensures ∙ c.if-lists_fit.false))
