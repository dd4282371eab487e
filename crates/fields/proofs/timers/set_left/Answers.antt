use mathlib.Core.Path.{refl}
use lib.Dec.{lit<}
use Rattle.model.specs.Parts.{with_time}
use Rattle.fields.proofs.Parts.{part_written, timers-part, named}
use Rattle.fields.proofs.timers.set_left.Goals as goal

pub returns : goal.returns
returns c =
    let x = c.args.x in
    part_written timers-part (named c.told-image c.requires) 1 x (λ t. with_time x t.count t) (lit< tt) c.put_u32.ensures (λ n. refl)
