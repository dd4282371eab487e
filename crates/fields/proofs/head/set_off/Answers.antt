use mathlib.Core.Path.{refl}
use lib.Dec.{lit<}
use Rattle.model.specs.Parts.{with_off}
use Rattle.fields.proofs.Parts.{head_written}
use Rattle.fields.proofs.head.set_off.Goals as goal

pub returns : goal.returns
returns c = head_written c.args.image.now 1 c.args.x (with_off c.args.x) c.told-image (lit< tt) (lit< tt) refl refl
