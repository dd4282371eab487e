-- The record that is stored is the one that was read, changed.
use Rattle.model.specs.Parts.{with_delivered}
use Rattle.table.proofs.Rewriting.{rewritten_thread}
use Rattle.table.proofs.threads.with_delivered.Goals as goal

pub returns : goal.returns
returns c =
    let e = c.thread-x.ensures in
    rewritten_thread c.args.t c.with_thread.result c.args.i _ (with_delivered c.args.word) (rw e) c.with_thread.ensures
