use Rattle.fields.proofs.Parts.{part_stored, flags-part, named}
use Rattle.fields.proofs.flags.store.Goals as goal

pub returns : goal.returns
returns c =
    part_stored flags-part (named c.told-image c.requires) c.args.x c.flag_object.ensures c.copy_at.ensures
