use mathlib.Core.Path.{refl}
use lib.Dec.{lit<}
use Rattle.model.specs.declared.tables.Flags.{Flags}
use Rattle.fields.proofs.Parts.{part_read, flags-part, named}
use Rattle.fields.proofs.flags.created.Goals as goal

pub returns : goal.returns
returns c = part_read flags-part (named c.told-image c.requires) 0 (λ (x : Flags). x.created) (lit< tt) (λ n. refl)
