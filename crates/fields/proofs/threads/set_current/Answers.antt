use mathlib.Core.Path.{refl}
use lib.Dec.{lit<}
use Rattle.model.specs.Parts.{with_current}
use Rattle.fields.proofs.Parts.{part_written, threads-part, named}
use Rattle.fields.proofs.threads.set_current.Goals as goal

pub returns : goal.returns
returns c = let x = c.args.p in part_written threads-part (named c.told-image c.requires) 2 x (with_current x) (lit< tt) refl (λ n. refl)
