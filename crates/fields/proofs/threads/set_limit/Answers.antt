use mathlib.Core.Path.{refl}
use lib.Dec.{lit<}
use Rattle.model.specs.Parts.{with_limit}
use Rattle.fields.proofs.Parts.{part_written, threads-part, named}
use Rattle.fields.proofs.threads.set_limit.Goals as goal

pub returns : goal.returns
returns c =
    let x = c.args.x in
    part_written threads-part (named c.told-image c.requires) 5 x (with_limit x) (lit< tt) c.put_u32.ensures (λ n. refl)
