use mathlib.Core.Path.{refl}
use lib.Dec.{lit<}
use Rattle.model.specs.Parts.{with_base}
use Rattle.fields.proofs.Parts.{part_written, threads-part, named}
use Rattle.fields.proofs.threads.set_base.Goals as goal

pub returns : goal.returns
returns c = let x = c.args.p in part_written threads-part (named c.told-image c.requires) 1 x (with_base x) (lit< tt) refl (λ n. refl)
