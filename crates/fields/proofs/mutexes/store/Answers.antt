use Rattle.fields.proofs.Parts.{part_stored, mutexes-part, named}
use Rattle.fields.proofs.mutexes.store.Goals as goal

pub returns : goal.returns
returns c =
    part_stored mutexes-part (named c.told-image c.requires) c.args.x c.mutex.ensures c.copy_at.ensures
