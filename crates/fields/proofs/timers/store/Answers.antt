use Rattle.fields.proofs.Parts.{part_stored, timers-part, named}
use Rattle.fields.proofs.timers.store.Goals as goal

pub returns : goal.returns
returns c =
    part_stored timers-part (named c.told-image c.requires) c.args.t c.timer.ensures c.copy_at.ensures
