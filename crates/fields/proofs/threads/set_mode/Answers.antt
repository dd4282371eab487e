use mathlib.Core.Path.{refl}
use lib.Dec.{lit<}
use Rattle.model.specs.Parts.{with_wait}
use Rattle.fields.proofs.Parts.{part_written, threads-part, named}
use Rattle.fields.proofs.threads.set_mode.Goals as goal

pub returns : goal.returns
returns c =
    let x = c.args.x in
    part_written threads-part (named c.told-image c.requires) 8 x (λ t. with_wait t.limit t.result t.mask x t) (lit< tt) refl (λ n. refl)
