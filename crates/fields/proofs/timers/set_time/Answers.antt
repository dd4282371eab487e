use mathlib.Core.Path.{refl}
use lib.Dec.{lit<}
use Rattle.model.specs.declared.tables.Timer.{Timer}
use Rattle.model.specs.Parts.{with_time}
use Rattle.fields.proofs.Parts.{part_written, part_twice, still-named, timers-part, named}
use Rattle.fields.proofs.timers.set_time.Goals as goal

pub returns : goal.returns
returns c =
    let lefts : Timer → Timer = λ t. with_time c.args.left t.count t in
    let counts : Timer → Timer = λ t. with_time t.left c.args.count t in
    let first = c.set_left.ensures in
    part_twice timers-part c.args.o lefts counts first
    (part_written timers-part (still-named first (named c.told-image c.requires)) 6 c.args.count counts (lit< tt) c.put_u32.ensures (λ n. refl))
