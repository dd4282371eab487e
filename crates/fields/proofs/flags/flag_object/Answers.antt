use Rattle.fields.proofs.Parts.{part-whole, flags-part, named}
use Rattle.fields.proofs.flags.flag_object.Goals as goal

pub returns : goal.returns
returns c = rw c.u16_at.ensures (part-whole flags-part (named c.told-image c.requires))
