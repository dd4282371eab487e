use Rattle.fields.proofs.Parts.{part_stored, semaphores-part, named}
use Rattle.fields.proofs.semaphores.store.Goals as goal

pub returns : goal.returns
returns c =
    part_stored semaphores-part (named c.told-image c.requires) c.args.x c.semaphore.ensures c.copy_at.ensures
