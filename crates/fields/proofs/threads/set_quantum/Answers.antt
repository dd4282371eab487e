use mathlib.Core.Path.{refl}
use lib.Dec.{lit<}
use Rattle.model.specs.declared.tables.Thread.{Thread}
use Rattle.model.specs.Parts.{with_quantum, with_left}
use Rattle.fields.proofs.Parts.{part_written, part_twice, threads-part, named}
use Rattle.fields.proofs.threads.set_quantum.Goals as goal

pub returns : goal.returns
returns c =
    let q = c.args.quantum in
    let new : Thread → Thread = λ t. with_quantum q t.left t in
    part_twice threads-part c.args.i new (with_left c.args.left)
    (part_written threads-part (named c.told-image c.requires) 3 q new (lit< tt) c.put_u16.ensures (λ n. refl)) c.set_left.ensures
