use mathlib.Core.Path.{refl}
use lib.Dec.{lit<}
use Rattle.model.specs.Parts.{with_clock}
use Rattle.fields.proofs.Parts.{head_written}
use Rattle.fields.proofs.head.set_clock.Goals as goal

pub returns : goal.returns
returns c =
    head_written c.args.image.now 0 c.args.x (with_clock c.args.x) c.told-image (lit< tt) (lit< tt) c.put_u32.ensures refl
