use mathlib.Core.Path.{refl}
use lib.Dec.{lit<}
use Rattle.model.specs.Parts.{with_left}
use Rattle.fields.proofs.Parts.{part_written, threads-part, named}
use Rattle.fields.proofs.threads.set_left.Goals as goal

pub returns : goal.returns
returns c =
    let x = c.args.x in
    part_written threads-part (named c.told-image c.requires) 4 x (with_left x) (lit< tt) c.put_u16.ensures (λ n. refl)
