use mathlib.Core.Path.{refl}
use lib.Dec.{lit<}
use Rattle.model.specs.Parts.{with_count}
use Rattle.fields.proofs.Parts.{part_written, semaphores-part, named}
use Rattle.fields.proofs.semaphores.set_count.Goals as goal

pub returns : goal.returns
returns c =
    let x = c.args.n in
    part_written semaphores-part (named c.told-image c.requires) 1 x (with_count x) (lit< tt) c.put_u16.ensures (λ n. refl)
