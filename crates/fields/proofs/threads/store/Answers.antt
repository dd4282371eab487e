use Rattle.fields.proofs.Parts.{part_stored, threads-part, named}
use Rattle.fields.proofs.threads.store.Goals as goal

pub returns : goal.returns
returns c =
    part_stored threads-part (named c.told-image c.requires) c.args.t c.thread.ensures c.copy_at.ensures
