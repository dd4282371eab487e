use mathlib.Core.Path.{refl}
use lib.Dec.{lit<}
use Rattle.model.specs.Parts.{with_result}
use Rattle.fields.proofs.Parts.{part_written, threads-part, named}
use Rattle.fields.proofs.threads.set_result.Goals as goal

pub returns : goal.returns
returns c = let x = c.args.x in part_written threads-part (named c.told-image c.requires) 6 x (with_result x) (lit< tt) refl (λ n. refl)
